-- The largest entry, and one more.
use Rattle.std.proofs.Common.{◌≡◌, max, sym, ◌∙◌}
use Rattle.std.specs.List.{reduce}
use Rattle.std.proofs.lemmas.Iterator.{YieldsList-from_slice}
use Rattle.std.proofs.lemmas.Iterator.Adapters.{option_map_id}
use Rattle.std.proofs.lemmas.Iterator.Consumers.{YieldsList-at, YieldsList-from_copied, max_from_yields_List}
use Rattle.certificate.proofs.ClassLaws.{classes_are}
use Rattle.certificate.proofs.merging.count_classes.Goals as goal

pub returns : goal.returns
returns c =
    let items = YieldsList-from_copied (YieldsList-at c.copied.ensures.source (YieldsList-from_slice c.args.items.now (cc))) in
    let most : c.max.result ≡ reduce max c.args.items.now = sym (option_map_id c.max.result) ∙ max_from_yields_List c.copied.result c.max.result c.max.ensures.ran items in
    rw (c.unwrap_or.ensures, most) (classes_are c.args.items.now)

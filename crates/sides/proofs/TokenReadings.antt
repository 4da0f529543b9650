-- A line of tokens: what it says as tokens, as bytes and as a term.
use mathlib.Core.Path.{◌≡◌, refl, sym, ap, ◌∙◌}
use mathlib.Core.Bool.{Bool, true, false}
use mathlib.Core.List.{List, map}
use Prim.Native.Nat.{ℕ, ◌≤◌}
use Prim.Native.String.{String}
use native.Mathlib.Omega.{arith}
use borrow.Author.Tests.{leb-true}
use lib.Dec.{leb}
use lib.ListN.{length}
use Rattle.theory.specs.Preorder.{Token}
use Rattle.paper.specs.Checked.{Checked, says, ◌>>=◌, ◌>>◌, ◌unless◌}
use Rattle.paper.specs.Fields.{all, each, entries, token}
use Rattle.paper.specs.Format.{Reading, refused, gave, line_of}
use Rattle.paper.specs.Sides.{permitted, term_of, term}
use Rattle.paper.proofs.Checked.{Says, said, passed, says_so, anything}
use Rattle.paper.proofs.Admitted.{line_read}
use Rattle.tables.specs.Held.{byte_of}
use Rattle.fields.proofs.Steps.{bind_same, bind_bind}
use Rattle.sides.proofs.Further.{further, line_further}

-- A line's tokens, with the refusals 4, 5 and 6.
unfoldable pub tokens_in : List ℕ → List ℕ → Checked (List Token)
tokens_in ar value = each token (entries value) >>= (λ ts. 5 unless all ts (permitted ar) >> (6 unless leb (length ts) 24 >> says ts))

abbrev pub in_bytes : List Token → Checked (List ℕ)
in_bytes ts = says (map byte_of ts)

after_tests : (b c : Bool) {X : Type 0} (ts : List Token) (f : List Token → Checked X) → ((5 unless b >> (6 unless c >> says ts)) >>= f) ≡ (5 unless b >> (6 unless c >> f ts))
unfolding ◌unless◌ ◌>>◌ ◌>>=◌
after_tests true true ts f = refl
after_tests true false ts f = refl
after_tests false c ts f = refl

pub term_tokens : (ar value : List ℕ) → term ar value ≡ (tokens_in ar value >>= term_of ar)
unfolding term tokens_in
term_tokens ar value =
    bind_same (each token (entries value)) _ _ (λ ts. sym (after_tests (all ts (permitted ar)) (leb (length ts) 24) ts (term_of ar)))
    ∙ sym (bind_bind (each token (entries value)) (λ ts. 5 unless all ts (permitted ar) >> (6 unless leb (length ts) 24 >> says ts)) (term_of ar))

-- The tokens of a line that was read, each a listed symbol or a variable below 4, 24 at most.
tokens_known : (ar value : List ℕ) → Says (λ ts. (all ts (permitted ar) ≡ true) × (length ts ≤ 24)) (tokens_in ar value)
unfolding tokens_in
tokens_known ar value = said _ _ (anything _) (λ ts u. passed 5 _ _ (λ h. passed 6 _ _ (λ l. says_so _ ts (h, leb-true (length ts) 24 l))))

-- What a line says as bytes, it says as tokens.
module _ (ar : List ℕ) (key : String) (line : ℕ) (bs : List ℕ) where
  abbrev pub in_tokens : Reading (List Token)
  in_tokens = line_of key (tokens_in ar) line bs

  abbrev pub as_bytes : Reading (List ℕ)
  as_bytes = line_of key (λ value. tokens_in ar value >>= in_bytes) line bs

  pub line_tokens : line_of key (term ar) line bs ≡ further (term_of ar) line in_tokens
  line_tokens = (λ i. line_of key (λ value. term_tokens ar value i) line bs) ∙ line_further key (tokens_in ar) (term_of ar) line bs

  pub tokens_listed : (ts : List Token) (l : ℕ) (rest : List ℕ) → in_tokens ≡ gave ts l rest → (all ts (permitted ar) ≡ true) × (length ts ≤ 24)
  tokens_listed ts l rest e = line_read (tokens_in ar) (tokens_known ar) key line bs ts l rest e

  pub bytes_refused : (n l : ℕ) → as_bytes ≡ refused n l → in_tokens ≡ refused n l
  unfolding further
  bytes_refused n l e = go in_tokens (sym (line_further key (tokens_in ar) in_bytes line bs) ∙ e)
    where
      go : (w : Reading (List Token)) → further in_bytes line w ≡ refused n l → w ≡ refused n l
      go (refused m k) h = let p : m ≡ n = cc in let q : k ≡ l = cc in ap (λ i. refused i k) p ∙ ap (refused n) q
      go (gave ts k rest) h = let z : ◌≡◌ {A = ℕ} 0 1 = cc in absurd (omega arith)

  pub bytes_gave : (ns : List ℕ) (l : ℕ) (rest : List ℕ) → as_bytes ≡ gave ns l rest → (ts : List Token) × (in_tokens ≡ gave ts l rest) × (map byte_of ts ≡ ns)
  unfolding further
  bytes_gave ns l rest e = go in_tokens (sym (line_further key (tokens_in ar) in_bytes line bs) ∙ e)
    where
      go : (w : Reading (List Token)) → further in_bytes line w ≡ gave ns l rest → (ts : List Token) × (w ≡ gave ts l rest) × (map byte_of ts ≡ ns)
      go (refused m k) h = let z : ◌≡◌ {A = ℕ} 0 1 = cc in absurd (omega arith)
      go (gave ts k r) h = let p : map byte_of ts ≡ ns = cc in let q : k ≡ l = cc in let t : r ≡ rest = cc in (ts, ap (λ i. gave ts i r) q ∙ ap (gave ts l) t, p)

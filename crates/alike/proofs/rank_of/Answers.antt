-- `alike::rank_of` meets its contract: a symbol has its arity, a variable has no subterms.
use mathlib.Core.Path.{sym, ◌∙◌}
use Rattle.alike.proofs.Sides.{rank_symbol, rank_variable}
use Rattle.alike.proofs.rank_of.Goals as goal

pub returns-then-token-lt-VARIABLE : goal.returns-then-token-lt-VARIABLE
returns-then-token-lt-VARIABLE c = c.arity.ensures ∙ sym (rank_symbol c.args.arities.now c.args.token c.if-token-lt-VARIABLE.true)

pub returns-else-token-lt-VARIABLE : goal.returns-else-token-lt-VARIABLE
returns-else-token-lt-VARIABLE c = sym (rank_variable c.args.arities.now c.args.token c.if-token-lt-VARIABLE.false)

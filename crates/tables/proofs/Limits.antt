-- The arrays of the tables are as long as the scope's limits ask: a transition takes a symbol, its arguments and a target, a rule two sides of tokens,
-- a symbol a byte. A merging has a byte for each of the 64 numbers that a byte of a row can be.
use mathlib.Core.Path.{◌≡◌, refl}
use Prim.Native.Nat.{ℕ, ◌+◌, ◌*◌}
use package.mir.Syntax.{Ty, ty_int, ty_struct, ty_array, tnil, tcons, w8, w32, w64}
use Rattle.paper.specs.Limits.{most_symbols, most_arity, most_transitions, most_rules, most_tokens}
use Rattle.tables.specs.contracts.Table as table
use Rattle.tables.specs.contracts.Rule as rule
use Rattle.tables.specs.contracts.Rules as rules
use Rattle.tables.specs.contracts.Tables as tables
use Rattle.tables.specs.contracts.Merging as merging
use Rattle.tables.proofs.Table.TheLaws as table-laws
use Rattle.tables.proofs.Rule.TheLaws as rule-laws
use Rattle.tables.proofs.Rules.TheLaws as rules-laws
use Rattle.tables.proofs.Tables.TheLaws as tables-laws
use Rattle.tables.proofs.Merging.TheLaws as merging-laws

abbrev number : Ty
number = ty_int w64

abbrev bytes : ℕ → Ty
bytes n = ty_array (ty_int w8) n

pub table_is : table-laws.mir ≡ ty_struct (table.struct).name (tcons number (tcons number (tcons number (tcons (bytes ((most_arity + 2) * most_transitions)) tnil))))
table_is = refl

pub rule_is : rule-laws.mir ≡ ty_struct (rule.struct).name
    (tcons (bytes (most_tokens + most_tokens)) (tcons (ty_int w8) (tcons (ty_int w8) (tcons (ty_int w8) tnil))))
rule_is = refl

pub rules_is : rules-laws.mir ≡ ty_struct (rules.struct).name (tcons number (tcons (ty_array rule-laws.mir most_rules) tnil))
rules_is = refl

pub tables_is : tables-laws.mir ≡ ty_struct (tables.struct).name
    (tcons (ty_int w32) (tcons number (tcons (bytes most_symbols) (tcons table-laws.mir (tcons table-laws.mir (tcons rules-laws.mir tnil))))))
tables_is = refl

pub merging_is : merging-laws.mir ≡ ty_struct (merging.struct).name (tcons number (tcons (bytes 64) tnil))
merging_is = refl

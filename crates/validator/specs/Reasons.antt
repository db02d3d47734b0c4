-- The words that stand for the reasons of a mismatch.
use Rattle.std.specs.Prelude.{ℕ, List, codes}
use Rattle.validator.specs.declared.verdict.Reason.{Reason}
use Rattle.validator.specs.declared.verdict.Reason.TheVariants as reason

-- the bytes of the word that is printed for a reason
abbrev pub reason_name : Reason → List ℕ
reason_name reason.Joins = codes "joins"
reason_name reason.End = codes "end"
reason_name reason.Condition = codes "condition"
reason_name reason.Label = codes "label"
reason_name reason.Register = codes "register"
reason_name reason.Bank = codes "bank"
reason_name reason.Traps = codes "traps"

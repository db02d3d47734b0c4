-- What calls ask for.
use Rattle.std.specs.Prelude.{ℕ, List}
use Rattle.replay.specs.declared.call.Call.{Call}
use Rattle.replay.specs.declared.call.Call.TheVariants as code

-- A call on a region, with the bytes of its text, or with how many term rows it is lent.
pub data Request : Type 0 where
  Source : (region : ℕ) (text : List ℕ) → Request
  Schedule : (region : ℕ) (text : List ℕ) → Request
  Check : (region lent : ℕ) → Request
  HandOut : (region : ℕ) → Request
  Drop : (region : ℕ) → Request

-- what a call of the code asks for
abbrev pub asked : Call → Request
asked (code.Source r t) = Source r t.now
asked (code.Schedule r t) = Schedule r t.now
asked (code.Check r lent) = Check r lent
asked (code.HandOut r) = HandOut r
asked (code.Drop r) = Drop r

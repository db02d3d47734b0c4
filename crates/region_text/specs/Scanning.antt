-- What the contracts of the byte readers cite. No rule of the text stands here.
use Rattle.std.specs.Prelude.{ℕ, min, Some, None, Option}

-- A number as a reader may hold it: from 65536 on all are as good as 65536, since no field says so much.
abbrev pub capped : Option ℕ → Option ℕ
capped None = None
capped (Some n) = Some (min n 65536)

-- The known pairs: texts, domains and verdicts.
use Rattle.std.specs.Prelude.{ℕ, cond, List, [], ◌∷◌, map, codes, ◌==◌}
use Prim.Native.String.{String}
use Rattle.validator.specs.declared.verdict.Reason.{Reason}
use Rattle.validator.specs.declared.verdict.Reason.TheVariants as reason
use Rattle.validator.specs.declared.verdict.Verdict.{Verdict}
use Rattle.validator.specs.declared.verdict.Verdict.TheVariants.{Passed, Failed}
use Rattle.known_pairs.specs.declared.pair.KnownPair.{KnownPair}
use Rattle.known_pairs.specs.declared.pair.DomainName.{DomainName}
use Rattle.known_pairs.specs.declared.pair.DomainName.TheVariants.{Wrapping, Trapping}

-- the texts of a source and of a schedule as bytes, and the verdict of their comparison in a domain
pub record Pair : Type 0 where
  pub source : List ℕ
  pub schedule : List ℕ
  pub domain : DomainName
  pub verdict : Verdict

-- the pair that a value of the code says
abbrev pub pair_of : KnownPair → Pair
pair_of p = record { source = p.source.now; schedule = p.schedule.now; domain = p.domain; verdict = p.verdict }

-- A text as it is written here: a space stands for a tab, and a semicolon for LF.
abbrev pub byte : ℕ → ℕ
byte b = cond (b == 32) 9 (cond (b == 59) 10 b)

abbrev pub text : String → List ℕ
text s = map byte (codes s)

abbrev pub pair : (source schedule : String) → DomainName → Verdict → Pair
pair a b d v = record { source = text a; schedule = text b; domain = d; verdict = v }

abbrev pub failed : (entry stop : ℕ) → Reason → (number : ℕ) → Verdict
failed e s r n = Failed (record { entry = e; stop = s; reason = r; number = n })

-- a booking: two registers are compared, an exit leaves for `busy` where they are equal, and below it a cell is stored to
abbrev pub booking : String
booking = "M busy 0000;M done 0002;O 5 2 3 4;X 2 busy;S 1 5 6;I 1 7;E done;"

-- No register is live at the label `busy`, and register 1 is at `done`. What holds in every domain
-- stands once for each of the two.
abbrev pub pairs : List Pair
pairs =
    -- no rows
    pair "M done 0002;E done;" "E done;" Wrapping Passed
    ∷ pair "M done 0002;E done;" "E done;" Trapping Passed
    -- a literal lifted to the top
    ∷ pair booking "I 1 7;O 5 2 3 4;X 2 busy;S 1 5 6;E done;" Wrapping Passed
    -- the store directly above the exit
    ∷ pair booking "O 5 2 3 4;S 1 5 6;X 2 busy;I 1 7;E done;" Wrapping (failed 0 1 reason.Bank 1)
    ∷ pair booking "O 5 2 3 4;S 1 5 6;X 2 busy;I 1 7;E done;" Trapping (failed 0 1 reason.Bank 1)
    -- exchanged operands: of an addition, and of a subtraction
    ∷ pair "M done 0002;O 0 1 3 4;E done;" "O 0 1 4 3;E done;" Wrapping Passed
    ∷ pair "M done 0002;O 1 1 3 4;E done;" "O 1 1 4 3;E done;" Wrapping (failed 0 1 reason.Register 1)
    ∷ pair "M done 0002;O 1 1 3 4;E done;" "O 1 1 4 3;E done;" Trapping (failed 0 1 reason.Register 1)
    -- an addition lifted above an exit
    ∷ pair "M busy 0000;M done 0002;X 2 busy;O 0 1 3 4;E done;" "O 0 1 3 4;X 2 busy;E done;" Wrapping Passed
    ∷ pair "M busy 0000;M done 0002;X 2 busy;O 0 1 3 4;E done;" "O 0 1 3 4;X 2 busy;E done;" Trapping (failed 0 1 reason.Traps 0)
    -- a literal raised above a join: without its copy, and with it
    ∷ pair "M done 0002;J;I 1 7;E done;" "I 1 7;J;E done;" Wrapping (failed 1 1 reason.Register 1)
    ∷ pair "M done 0002;J;I 1 7;E done;" "I 1 7;J;E done;" Trapping (failed 1 1 reason.Register 1)
    ∷ pair "M done 0002;J;I 1 7;E done;" "I 1 7;J;E done;Q 1;I 1 7;" Wrapping Passed
    ∷ pair "M done 0002;J;I 1 7;E done;" "I 1 7;J;E done;Q 1;I 1 7;" Trapping Passed
    -- one join against none
    ∷ pair "M done 0002;J;E done;" "E done;" Wrapping (failed 0 0 reason.Joins 0)
    ∷ pair "M done 0002;J;E done;" "E done;" Trapping (failed 0 0 reason.Joins 0)
    ∷ []

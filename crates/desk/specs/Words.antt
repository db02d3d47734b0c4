-- The words and lines that programs print and read.
use Rattle.std.specs.Prelude.{◌≡◌, ◌≢◌, ℕ, List, ◌++◌, codes, decimal, Ok, Err, Result}
use Rattle.region_text.specs.Faults.{layer_name}
use Rattle.shelf.specs.Refusals.{printed_number}
use Rattle.validator.specs.declared.verdict.Mismatch.{Mismatch}
use Rattle.validator.specs.declared.verdict.Verdict.{Verdict}
use Rattle.validator.specs.declared.verdict.Verdict.TheVariants.{Passed, Failed}
use Rattle.validator.specs.Reasons.{reason_name}
use Rattle.desk.specs.declared.call.Call.{Call}
use Rattle.desk.specs.declared.call.Call.TheVariants as call
use Rattle.desk.specs.declared.call.Declined.{Declined}
use Rattle.desk.specs.declared.domain_name.DomainName.{DomainName}
use Rattle.desk.specs.declared.domain_name.DomainName.TheVariants as domain
use Rattle.desk.specs.declared.domain_name.UnknownDomain.{UnknownDomain}

-- the word for a domain
abbrev pub domain_word : DomainName → List ℕ
domain_word domain.Wrapping = codes "w"
domain_word domain.Trapping = codes "t"
domain_word domain.TaggedWrapping = codes "kw"
domain_word domain.TaggedTrapping = codes "kt"
domain_word domain.TwiceTaggedWrapping = codes "kkw"

-- the domain that has this word, or an error where none has it
abbrev pub IsNamed : List ℕ → Result DomainName UnknownDomain → Type 0
IsNamed word (Ok d) = domain_word d ≡ word
IsNamed word (Err e) = (d : DomainName) → domain_word d ≢ word

-- the word for a call
abbrev pub call_word : Call → List ℕ
call_word call.Open = codes "open"
call_word call.Source = codes "source"
call_word call.Schedule = codes "schedule"
call_word call.Check = codes "check"

-- texts with a space between each and the next
abbrev pub spaced : List ℕ → List ℕ → List ℕ
spaced a b = a ++ (codes " " ++ b)

-- a declined call, and the number, line, field and layer of the refusal
abbrev pub declined_text : Declined → List ℕ
declined_text d =
    spaced (call_word d.call) (spaced (decimal (printed_number d.refusal.number)) (spaced (decimal d.refusal.line)
    (spaced (decimal d.refusal.field) (layer_name d.refusal.layer))))

-- a mismatch: its entry, its stop, the reason and its number
abbrev pub mismatch_text : Mismatch → List ℕ
mismatch_text m = spaced (decimal m.entry) (spaced (decimal m.stop) (spaced (reason_name m.reason) (decimal m.number)))

-- what the calls answer of a pair of texts
abbrev pub answer_text : Result Verdict Declined → List ℕ
answer_text (Ok Passed) = codes "passed"
answer_text (Ok (Failed m)) = codes "failed " ++ mismatch_text m
answer_text (Err d) = codes "refused " ++ declined_text d

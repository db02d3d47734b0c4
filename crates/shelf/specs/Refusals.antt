-- Why calls are declined.
use Rattle.std.specs.Prelude.{ℕ}
use Rattle.region.specs.declared.outcome.Misfit.{Misfit}
use Rattle.region.specs.declared.outcome.Misfit.TheVariants as misfit
use Rattle.region_text.specs.declared.fault.Layer.TheVariants as layer
use Rattle.region_text.specs.declared.fault.Refusal.{Refusal as TextRefusal}
use Rattle.region_text.specs.Faults.{printed}
use Rattle.shelf.specs.declared.refusal.Number.{Number}
use Rattle.shelf.specs.declared.refusal.Number.TheVariants as number
use Rattle.shelf.specs.declared.refusal.Refusal.{Refusal}

-- the number that is printed for each reason
abbrev pub printed_number : Number → ℕ
printed_number number.Sizes = 1
printed_number number.Region = 2
printed_number number.Source = 3
printed_number number.Schedule = 4
printed_number number.NotPassed = 5
printed_number (number.Text f) = printed f
printed_number number.Entry = 11
printed_number number.State = 12

-- a refusal that is not about a text has no line and no field
abbrev pub without_place : Number → Refusal
without_place n = record { number = n; line = 0; field = 0; layer = layer.Shelf }

-- a text's refusal climbs on with its number, line, field and layer
abbrev pub of_text : TextRefusal → Refusal
of_text f = record { number = number.Text f.fault; line = f.line; field = f.field; layer = f.layer }

-- why there is no run
abbrev pub of_misfit : Misfit → Refusal
of_misfit misfit.Rows = without_place number.Sizes
of_misfit misfit.Entry = without_place number.Entry
of_misfit misfit.State = without_place number.State

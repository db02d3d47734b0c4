use Rattle.std.proofs.Common.{◌≡◌, ◌≤◌, drop}
use Rattle.region_text.specs.Fields.{digits, decimal}
use Rattle.region_text.specs.Scanning.{capped}
use Rattle.region_text.proofs.fields.read_decimal.Given as goal

abbrev pub invariant-loop-b : goal.invariant-loop-b
invariant-loop-b l = record {
  cut : l.n ≤ 65536;
  said : capped (digits l.n (drop l.b-index l.field)) ≡ capped (decimal l.field);
}

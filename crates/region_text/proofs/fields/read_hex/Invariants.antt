use Rattle.std.proofs.Common.{◌≡◌, ◌<◌, ◌^◌, drop}
use Rattle.region_text.specs.Fields.{hex}
use Rattle.region_text.proofs.fields.read_hex.Given as goal

abbrev pub invariant-loop-b : goal.invariant-loop-b
invariant-loop-b l = record {
  below : l.n < 16 ^ l.b-index;
  said : hex l.n (drop l.b-index l.digits) ≡ hex 0 l.digits;
}

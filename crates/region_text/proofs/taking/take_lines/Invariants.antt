use Rattle.std.proofs.Common.{◌≡◌}
use Rattle.region_text.specs.Texts.{lines}
use Rattle.region_text.specs.Taking.{taken, all_taken}
use Rattle.region_text.proofs.taking.take_lines.Given as goal

abbrev pub invariant-loop-line : goal.invariant-loop-line
invariant-loop-line g l =
    let body = g.B.Body in
    let rest = l.line-iterator in
    record {
      taken : all_taken (taken body.in_place body.adds) body.end_of (body.read l.body) rest.number (lines rest.rest.now) ≡ all_taken (taken body.in_place body.adds) body.end_of (body.read l.initial.body) 1 (lines l.text);
      counted : l.behind ≡ rest.number;
    }

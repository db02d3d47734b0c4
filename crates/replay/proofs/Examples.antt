-- The example, computed.
use Rattle.std.proofs.Common.{[], refl, lit≤}
use Rattle.domain.specs.Meaning.{Lawful}
use Rattle.domain.specs.Wrapping.{wrapping}
use Rattle.replay.specs.Example.{story, told, Example}
use Rattle.replay.specs.Held.{held}
use Rattle.replay.specs.Stored.{stored}
use Rattle.replay.proofs.Lawful.{lawful}

pub example : Lawful wrapping → Example
example laws = record {
  lawful = lawful wrapping laws 512 1 (stored 1 (λ r. held wrapping r (told [] story))) (told [] story) (record {
    few = lit≤ tt;
    holds = refl;
    answers = (refl, (refl, (refl, (refl, (refl, (refl, (refl, (refl, (refl, (refl, (refl, (refl, (refl, (refl, (refl, (refl, (refl, (refl, tt))))))))))))))))));
  });
  passes = (refl, (refl, (refl, (refl, (refl, (refl, (refl, (refl, (refl, (refl, (refl, (refl, (refl, (refl, (refl, (refl, (refl, (refl, tt))))))))))))))))));
}

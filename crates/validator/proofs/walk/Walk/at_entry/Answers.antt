use Rattle.std.proofs.Common.{refl}
use Rattle.validator.specs.Terms.{register_at_entry, bank_at_entry}
use Rattle.validator.proofs.Interning.{says_register, says_bank}
use Rattle.validator.proofs.Entering.{begun}
use Rattle.validator.proofs.walk.Walk.at_entry.Goals as goal

pub returns-clause-begun : goal.returns-clause-begun
returns-clause-begun c d =
    begun d _ c.requires.empty c.name-registers.ensures.long c.name-banks.ensures.long refl
    (c.name-registers.ensures.named d register_at_entry (λ xs i r p. rw p (says_register d xs i))) (c.name-banks.ensures.named d bank_at_entry (λ xs i r p. rw p (says_bank d xs i)))

-- What lists of calls on a desk answer and leave, by the law over calls.
use Rattle.std.specs.Prelude.{ℕ, List, Result}
use Rattle.domain.specs.Tagged.{tagged}
use Rattle.domain.specs.Trapping.{trapping}
use Rattle.domain.specs.Wrapping.{wrapping}
use Rattle.shelf.specs.declared.refusal.Refusal.{Refusal}
use Rattle.shelf.specs.Store.{Store}
use Rattle.replay.specs.declared.call.Call.{Call}
use Rattle.replay.specs.Answers.{Answer}
use Rattle.replay.specs.Law.{Replayed}
use Rattle.desk.specs.declared.domain_name.DomainName.{DomainName}
use Rattle.desk.specs.declared.domain_name.DomainName.TheVariants as domain

-- the law over calls in the domain of that name, with 512 term rows to lend
abbrev pub replayed_in : DomainName → List Call → (st st' : Store) → (before after : List Answer) → Result ℕ Refusal → Type 0
replayed_in domain.Wrapping = Replayed wrapping 512
replayed_in domain.Trapping = Replayed trapping 512
replayed_in domain.TaggedWrapping = Replayed (tagged wrapping) 512
replayed_in domain.TaggedTrapping = Replayed (tagged trapping) 512
replayed_in domain.TwiceTaggedWrapping = Replayed (tagged (tagged wrapping)) 512

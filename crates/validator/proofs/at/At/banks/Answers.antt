use Rattle.std.proofs.Common.{◌≡◌, ℕ, ◌<◌, true, false, rules}
use Rattle.std.proofs.iter.runs.Made.{chains}
use Rattle.validator.specs.declared.verdict.Reason.TheVariants.{Bank}
use Rattle.validator.specs.Numbers.{unlike}
use Rattle.validator.proofs.Lowest.{lowest_at}
use Rattle.validator.proofs.at.At.banks.Goals as goal

pub returns : goal.returns
returns c =
    let xs = c.args.x.now.banks in
    let ys = c.args.y.now.banks in
    let i = c.in_ok-lowest.lowest in
    let inside : i < 4 = search (rules, chains) in
    let below : (k : ℕ) → k < i → unlike xs ys k ≡ false = λ k l. search (rules, chains) in
    let here : unlike xs ys i ≡ true = search (rules, chains) in
    rw c.mismatch.ensures (lowest_at c.args.self.from c.args.self.stop Bank 4 (unlike xs ys) i inside below here)

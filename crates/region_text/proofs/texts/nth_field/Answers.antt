use Rattle.std.proofs.Common.{◌≡◌, ◌==◌, List, [], ℕ, Bor, Some, None, Option, rules, refl, ap, ◌∙◌}
use Rattle.std.specs.Option.{unwrap_or, option_map}
use Rattle.std.specs.List.{slice_split}
use Rattle.std.proofs.lemmas.Option.{unwrap_or-slice_get}
use Rattle.std.proofs.lemmas.Iterator.Consumers.{nth_from_yields_List}
use Rattle.std.proofs.lemmas.Iterator.Splits.{YieldsList-from_slice_split}
use Rattle.region_text.proofs.texts.nth_field.Goals as goal

pointed : (r : Option (Bor (List ℕ))) (d : Bor (List ℕ)) → (unwrap_or r d).now ≡ unwrap_or (option_map (λ x. x.now) r) d.now
pointed None d = refl
pointed (Some x) d = refl

pub returns : goal.returns
returns c =
    let split = c.split.ensures in
    let nth = nth_from_yields_List c.nth.result _ c.args.index c.nth.ensures.ran (YieldsList-from_slice_split _ (λ b. b == 9) c.args.line.now split.rest split.done split.closure (λ x b q h. search rules)) in
    ap (λ s. s.now) c.unwrap_or.ensures ∙ pointed c.nth.result _ ∙ ap (λ o. unwrap_or o []) nth ∙ unwrap_or-slice_get (slice_split (λ b. b == 9) c.args.line.now) c.args.index []

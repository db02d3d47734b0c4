-- One event more.
use Rattle.std.proofs.Common.{◌≡◌, ℕ, ◌+◌, ◌<◌, List, [], ◌∷◌, ◌++◌, length, get_or, take, drop, set, Ok, sym, refl, ap, ◌∙◌, subst, ap₂, arith}
use Rattle.std.proofs.lemmas.List.{length-take-le, take_more, take_more_set}
use Rattle.replay.specs.declared.call.Call.{Call}
use Rattle.domain.specs.Meaning.{Meaning, Lawful}
use Rattle.shelf.specs.Calls.{open_answer, opened}
use Rattle.shelf.specs.Store.{Store}
use Rattle.replay.specs.Events.{Event, history}
use Rattle.replay.specs.Requests.{asked}
use Rattle.replay.specs.Answers.{Answer, answer_to}
use Rattle.replay.specs.Steps.{store_after, Kept}
use Rattle.replay.specs.Law.{Law, made, by_open, Replayed}
use Rattle.replay.proofs.Keeping.{kept_more}
use Rattle.replay.proofs.Lawful.{lawful, opened_kept}

history_push : (cs : List Call) (as' : List Answer) (es : List Event) (c : Call) (a : Answer) → length cs ≡ length as'
    → history es (cs ++ c ∷ []) (as' ++ a ∷ []) ≡ record { call = asked c; answer = a } ∷ history es cs as'
history_push [] [] es c a e = refl
history_push [] (b ∷ bs) es c a e = absurd (omega arith)
history_push (d ∷ ds) [] es c a e = absurd (omega arith)
history_push (d ∷ ds) (b ∷ bs) es c a e = history_push ds bs (record { call = asked d; answer = b } ∷ es) c a (omega arith)

-- the call at place i got the answer a
history_more : (cs : List Call) (as' : List Answer) (i : ℕ) (d : Call) (a : Answer) → i < length cs → i < length as'
    → history [] (take (i + 1) cs) (take (i + 1) (set as' i a)) ≡ record { call = asked (get_or cs i d); answer = a } ∷ history [] (take i cs) (take i as')
history_more cs as' i d a h k =
    ap₂ (history []) (take_more cs i d h) (take_more_set as' i a k)
    ∙ history_push (take i cs) (take i as') [] (get_or cs i d) a (length-take-le i cs (omega arith) ∙ sym (length-take-le i as' (omega arith)))

module _ {W : Type 0} (m : Meaning W) (terms n : ℕ) where
  -- after one call more of a list
  pub made_more : (st st' : Store) (cs : List Call) (as' : List Answer) (i : ℕ) (d : Call) (a : Answer) (t : ℕ) → t ≡ terms → i < length cs → i < length as'
      → a ≡ answer_to m t st (asked (get_or cs i d)) → st' ≡ store_after m t st (asked (get_or cs i d)) → Kept m terms n st (history [] (take i cs) (take i as'))
      → Kept m terms n st' (history [] (take (i + 1) cs) (take (i + 1) (set as' i a)))
  made_more st st' cs as' i d a t e h k p q all =
      rw (history_more cs as' i d a h k)
      (kept_more m terms n st st' (history [] (take i cs) (take i as')) (asked (get_or cs i d)) a all
      (p ∙ ap (λ j. answer_to m j st (asked (get_or cs i d))) e) (q ∙ ap (λ j. store_after m j st (asked (get_or cs i d))) e))

  -- after OPEN, and as many calls as there is room for answers
  pub replayed : Lawful m → (calls part : List Call) (st st₁ st' : Store) (before after : List Answer) (k : ℕ) → Ok n ≡ open_answer st → st₁ ≡ opened st n
      → part ≡ take k calls → k ≡ made m terms calls st st' before after
      → ((j : ℕ) → Kept m terms j st₁ [] → Kept m terms j st' (history [] part (take (length part) after))) → drop (length part) after ≡ drop (length part) before
      → Replayed m terms calls st st' before after (Ok k)
  replayed laws calls part st st₁ st' before after k o p q e kept beyond =
      subst (λ x. by_open m terms calls st st' before after x (Ok k)) o
      (record {
        answer = ap Ok e;
        law = subst (λ j. Law m n terms st' (history [] (take j calls) (take j after))) e
            (lawful m laws terms n st' (history [] (take k calls) (take k after))
            (subst (λ xs. Kept m terms n st' (history [] xs (take k after))) q
            (subst (λ j. Kept m terms n st' (history [] part (take j after))) many (kept n (subst (λ s. Kept m terms n s []) (sym p) (opened_kept m terms st n (sym o)))))));
        beyond = subst (λ j. drop j after ≡ drop j before) (many ∙ e) beyond;
      })
    where
      many : length part ≡ k
      many = ap length q ∙ length-take-le k calls (omega arith)

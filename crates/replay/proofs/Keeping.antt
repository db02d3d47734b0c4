-- Each call leaves the store of what is held then.
use Rattle.std.proofs.Common.{◌≡◌, ℕ, zero, suc, ◌*◌, ◌<◌, ◌≤◌, min, Bool, true, false, cond, ltb, List, ◌∷◌, ◌++◌, get_or, replicate, Some, None, Ok, Err, Option, Result, sym, refl, ap, ◌∙◌, subst, ap₂, mul-zero, mul-suc}
use mathlib.Core.Path.{fun_ext}
use Rattle.std.proofs.lemmas.List.{replicate-append-replicate}
use Rattle.std.proofs.lemmas.Bool.{ltb-true}
use Rattle.domain.specs.Meaning.{Meaning}
use Rattle.region.specs.Labels.{unused}
use Rattle.region.specs.Listing.{schedule_kept}
use Rattle.region.specs.Rows.{laid}
use Rattle.region_text.specs.declared.fault.Refusal.{Refusal as TextRefusal}
use Rattle.region_text.specs.Drafts.{Draft, LaidSchedule, laid_source, laid_schedule}
use Rattle.region_text.specs.Schedules.{Schedule, read_schedule}
use Rattle.region_text.specs.Sources.{Source, read_source}
use Rattle.region_text.proofs.Fits.{source_fits, schedule_fits}
use Rattle.validator.specs.declared.verdict.Verdict.{Verdict}
use Rattle.shelf.specs.declared.refusal.Number.TheVariants as number
use Rattle.shelf.specs.declared.refusal.Refusal.{Refusal}
use Rattle.shelf.specs.Calls.{on_granted, from_text, settled, source_put, schedule_put, scheduled, check_put, marked, dropped}
use Rattle.shelf.specs.Refusals.{without_place}
use Rattle.shelf.specs.Store.{KeptRegion, Store, empty_region}
use Rattle.replay.specs.declared.call.Granted.TheVariants.{Done, Judged}
use Rattle.replay.specs.Requests as call
use Rattle.replay.specs.Requests.{Request}
use Rattle.replay.specs.Events.{Event, counts}
use Rattle.replay.specs.Held.{Held, nothing, said, said_for, verdict_of, compared, held_after, held}
use Rattle.replay.specs.Answers.{Answer, answer_to}
use Rattle.replay.specs.Steps.{store_after, Kept}
use Rattle.replay.specs.Stored.{record_of, in_order, stored}
use Rattle.replay.proofs.ByHeld.{scheduled_by, judged_by, source_by, schedule_by, check_by}
use Rattle.replay.proofs.Regions.{Fits, held_fits, changed, record_at, region_known, whole_put, schedule_put_in, record_put}

either : {X : Type 0} (b : Bool) (x : X) → x ≡ cond b x x
either true x = refl
either false x = refl

module _ {W : Type 0} (m : Meaning W) (terms n : ℕ) (few : n ≤ 16) (es : List Event) where
  abbrev H : ℕ → Held
  H q = held m q es

  fits : (q : ℕ) → Fits (held m q es)
  fits q = held_fits m q es

  -- what is held once a call got an answer
  abbrev then : Request → Answer → ℕ → Held
  then c a q = held m q (record { call = c; answer = a } ∷ es)

  module _ (r : ℕ) where
    source_keeps : (t : List ℕ) → store_after m terms (stored n H) (call.Source r t) ≡ stored n (then (call.Source r t) (answer_to m terms (stored n H) (call.Source r t)))
    source_keeps t = subst Goal (sym (source_by m n few H fits r t (ltb r n) refl)) (go (ltb r n) refl (read_source t) refl)
      where
        Goal : Result Draft Refusal → Type 0
        Goal o = settled (stored n H) (source_put (stored n H) r) o ≡ stored n (then (call.Source r t) (on_granted (λ _. Done) o))

        go : (b : Bool) → ltb r n ≡ b → (o : Result Source TextRefusal) → read_source t ≡ o
            → settled (stored n H) (source_put (stored n H) r) (cond b (from_text (laid_source o)) (Err (without_place number.Region)))
            ≡ stored n (then (call.Source r t) (on_granted (λ _. Done) (cond b (from_text (laid_source o)) (Err (without_place number.Region)))))
        go false e o p = refl
        go true e (Err f) p = refl
        go true e (Ok s) p =
            let h : Held = record { source = Some s; schedule = None; verdict = None } in
            whole_put n H fits few (then (call.Source r t) (Ok Done)) r h (ltb-true r n e)
            (changed H (λ q. held_after m (call.Source r t) (H q)) r h (ap (λ o. record { source = said o; schedule = None; verdict = None }) p))
            (record { source = source_fits t s p; schedule = tt })

    schedule_keeps : (t : List ℕ) → store_after m terms (stored n H) (call.Schedule r t) ≡ stored n (then (call.Schedule r t) (answer_to m terms (stored n H) (call.Schedule r t)))
    schedule_keeps t = subst Goal (sym (schedule_by m n few H fits r t (ltb r n) refl)) (go (ltb r n) refl (H r).source refl)
      where
        Goal : Result LaidSchedule Refusal → Type 0
        Goal o = settled (stored n H) (schedule_put (stored n H) r) o ≡ stored n (then (call.Schedule r t) (on_granted (λ _. Done) o))

        read : r < n → (s : Source) → (held m r es).source ≡ Some s → (o : Result Schedule TextRefusal) → read_schedule (laid 9 unused s.labels) t ≡ o
            → settled (stored n H) (schedule_put (stored n H) r) (from_text (laid_schedule o)) ≡ stored n (then (call.Schedule r t) (on_granted (λ _. Done) (from_text (laid_schedule o))))
        read l s p (Err f) q = refl
        read l s p (Ok x) q =
            let h : Held = record { source = (H r).source; schedule = Some x; verdict = None } in
            let kept = schedule_kept x.rows x.exits x.entries x.end in
            schedule_put_in n H fits few (then (call.Schedule r t) (Ok Done)) r h l
            (changed H (λ k. held_after m (call.Schedule r t) (H k)) r h
            (ap (λ o. record { source = (H r).source; schedule = o; verdict = None }) (ap (λ o. said_for o t) p ∙ ap said q)))
            (scheduled (get_or (stored n H).regions r empty_region) kept) (ap (λ k. scheduled k kept) (record_at n H fits few r l)) refl
            (record { source = (fits r).source; schedule = schedule_fits (laid 9 unused s.labels) t x q })

        go : (b : Bool) → ltb r n ≡ b → (o : Option Source) → (held m r es).source ≡ o
            → settled (stored n H) (schedule_put (stored n H) r) (cond b (scheduled_by o t) (Err (without_place number.Region)))
            ≡ stored n (then (call.Schedule r t) (on_granted (λ _. Done) (cond b (scheduled_by o t) (Err (without_place number.Region)))))
        go false e o p = refl
        go true e None p = refl
        go true e (Some s) p = read (ltb-true r n e) s p (read_schedule (laid 9 unused s.labels) t) refl

    check_keeps : (lent : ℕ) → store_after m terms (stored n H) (call.Check r lent) ≡ stored n (then (call.Check r lent) (answer_to m terms (stored n H) (call.Check r lent)))
    check_keeps lent =
        subst Goal (sym (check_by m n few H fits r (min lent terms) (ltb (min lent terms) 512) (ltb r n) refl refl))
        (go (ltb (min lent terms) 512) (ltb r n) refl (H r).source refl (H r).schedule refl)
      where
        Goal : Result Verdict Refusal → Type 0
        Goal o = settled (stored n H) (check_put (stored n H) r) o ≡ stored n (then (call.Check r lent) (on_granted Judged o))

        go : (a b : Bool) → ltb r n ≡ b → (o : Option Source) → (held m r es).source ≡ o → (p : Option Schedule) → (held m r es).schedule ≡ p
            → settled (stored n H) (check_put (stored n H) r) (cond a (Err (without_place number.Sizes)) (cond b (judged_by m o p) (Err (without_place number.Region))))
            ≡ stored n (then (call.Check r lent) (on_granted Judged (cond a (Err (without_place number.Sizes)) (cond b (judged_by m o p) (Err (without_place number.Region))))))
        go true b e o i p j = refl
        go false false e o i p j = refl
        go false true e None i p j = refl
        go false true e (Some s) i None j = refl
        go false true e (Some s) i (Some x) j =
            let l : r < n = ltb-true r n e in
            let v = verdict_of m s x in
            let h : Held = record { source = (H r).source; schedule = (H r).schedule; verdict = Some v } in
            record_put n H fits few (then (call.Check r lent) (Ok (Judged v))) r h l
            (changed H (λ k. held_after m (call.Check r lent) (H k)) r h (ap₂ (λ u w. record { source = (H r).source; schedule = (H r).schedule; verdict = compared m u w }) i j))
            (marked (get_or (stored n H).regions r empty_region) v) (ap (λ k. marked k v) (record_at n H fits few r l)) refl refl

    drop_keeps : store_after m terms (stored n H) (call.Drop r) ≡ stored n (then (call.Drop r) (answer_to m terms (stored n H) (call.Drop r)))
    drop_keeps = subst Goal (sym (region_known n H fits few r (ltb r n) refl)) (go (ltb r n) refl)
      where
        Goal : Result KeptRegion Refusal → Type 0
        Goal o = settled (stored n H) (λ _. dropped (stored n H) r) o ≡ stored n (then (call.Drop r) (on_granted (λ _. Done) o))

        go : (b : Bool) → ltb r n ≡ b
            → settled (stored n H) (λ _. dropped (stored n H) r) (cond b (Ok (record_of (H r))) (Err (without_place number.Region)))
            ≡ stored n (then (call.Drop r) (on_granted (λ _. Done) (cond b (Ok (record_of (H r))) (Err (without_place number.Region)))))
        go false e = refl
        go true e =
            whole_put n H fits few (then (call.Drop r) (Ok Done)) r nothing (ltb-true r n e)
            (changed H (λ q. held_after m (call.Drop r) (H q)) r nothing refl) (record { source = tt; schedule = tt })

  pub call_keeps : (c : Request) → store_after m terms (stored n H) c ≡ stored n (then c (answer_to m terms (stored n H) c))
  call_keeps (call.Source r t) = source_keeps r t
  call_keeps (call.Schedule r t) = schedule_keeps r t
  call_keeps (call.Check r lent) = check_keeps r lent
  call_keeps (call.HandOut r) = ap (stored n) (fun_ext (λ q. either (counts q (record { call = call.HandOut r; answer = answer_to m terms (stored n H) (call.HandOut r) })) (H q)))
  call_keeps (call.Drop r) = drop_keeps r

-- one call more
module _ {W : Type 0} (m : Meaning W) (terms n : ℕ) where
  pub kept_more : (st st' : Store) (es : List Event) (c : Request) (a : Answer) → Kept m terms n st es → a ≡ answer_to m terms st c → st' ≡ store_after m terms st c
      → Kept m terms n st' (record { call = c; answer = a } ∷ es)
  kept_more st st' es c a k p q =
      let due = p ∙ ap (λ s. answer_to m terms s c) k.holds in
      record {
        few = k.few;
        holds = q ∙ ap (λ s. store_after m terms s c) k.holds ∙ call_keeps m terms n k.few es c ∙ ap (λ u. stored n (λ r. held m r (record { call = c; answer = u } ∷ es))) (sym due);
        answers = (due, k.answers);
      }

-- a blank shelf is that of regions that hold nothing
pub blank_in_order : {X : Type 0} (w : ℕ) (x : X) (n : ℕ) → in_order (λ _. replicate w x) n ≡ replicate (w * n) x
blank_in_order w x zero = ap (λ k. replicate k x) (sym (mul-zero w))
blank_in_order w x (suc n) =
    ap (λ xs. xs ++ replicate w x) (blank_in_order w x n) ∙ replicate-append-replicate (w * n) w x ∙ ap (λ k. replicate k x) (sym (mul-suc w n))

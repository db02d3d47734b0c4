-- The law of every list of calls.
use Rattle.std.proofs.Common.{◌≡◌, ◌↔◌, ℕ, ◌*◌, ◌/◌, ◌<◌, ◌≤◌, min, Bool, true, false, cond, ◌&&◌, eqb, ltb, leb, List, [], ◌∷◌, ◌++◌, length, get_or, replicate, Some, None, Ok, Err, Option, Result, sym, refl, ap, ◌∙◌, subst, ⊎_elim}
use Rattle.std.proofs.lemmas.Bool.{and_parts, eqb-true, le-ltb, leb-true, lt-ltb, cases_lt}
use Rattle.std.specs.Result.{is_ok}
use Rattle.domain.specs.Meaning.{Meaning, Lawful}
use Rattle.region.specs.Labels.{unused}
use Rattle.region.specs.Rows.{blank}
use Rattle.region_text.specs.Schedules.{Schedule}
use Rattle.region_text.specs.Sources.{Source}
use Rattle.validator.specs.declared.verdict.Verdict.{Verdict}
use Rattle.validator.specs.declared.verdict.Verdict.TheVariants.{Passed, Failed}
use Rattle.validator.specs.Live.{live_in}
use Rattle.moves.proofs.Completeness.{complete}
use Rattle.moves.proofs.Found.{passed as passed_means}
use Rattle.moves.proofs.Soundness.{sound}
use Rattle.shelf.specs.declared.refusal.Number.TheVariants as number
use Rattle.shelf.specs.Calls.{on_granted, opening, opened, reading, is_passed}
use Rattle.shelf.specs.Refusals.{without_place}
use Rattle.shelf.specs.Store.{Store, empty_region}
use Rattle.replay.specs.declared.call.Granted.TheVariants.{Done, Judged, HandedOut}
use Rattle.replay.specs.Requests as call
use Rattle.replay.specs.Requests.{Request}
use Rattle.replay.specs.Events.{Event, region_of_request, counts, alters}
use Rattle.replay.specs.Held.{Held, nothing, basis_of, verdict_of, compared, held_after, held, passed, Untouched}
use Rattle.replay.specs.Law.{handed, Rightly, RunsAlike, AtRegion, Law}
use Rattle.replay.specs.Said.{source_line, schedule_line}
use Rattle.replay.specs.Answers.{Answer, answer_to}
use Rattle.replay.specs.Steps.{AllAnswered, Kept}
use Rattle.replay.specs.Stored.{record_of, stored}
use Rattle.replay.proofs.ByHeld.{judged_by, source_by, schedule_by, check_by, hand_out_by, source_run_by, schedule_run_by}
use Rattle.replay.proofs.Keeping.{blank_in_order}
use Rattle.replay.proofs.ReadBack.{joins_said}
use Rattle.replay.proofs.Regions.{same_store, Fits, held_fits, record_at, region_known}

-- OPEN makes at most sixteen regions, and rows and labels are as many as they own
opening_fits : (rows labels n : ℕ) → opening rows labels ≡ Ok n → (n ≤ 16) × (rows ≡ 384 * n) × (labels ≡ 9 * n)
opening_fits rows labels n e = go (leb 1 (rows / 384) && leb (rows / 384) 16 && eqb rows (384 * (rows / 384)) && eqb labels (9 * (rows / 384))) refl e
  where
    go : (b : Bool) → (leb 1 (rows / 384) && leb (rows / 384) 16 && eqb rows (384 * (rows / 384)) && eqb labels (9 * (rows / 384))) ≡ b
        → cond b (Ok (rows / 384)) (Err (without_place number.Sizes)) ≡ Ok n → (n ≤ 16) × (rows ≡ 384 * n) × (labels ≡ 9 * n)
    go false p q = cc
    go true p q =
        let k : rows / 384 ≡ n = cc in
        let x = and_parts (leb 1 (rows / 384) && leb (rows / 384) 16 && eqb rows (384 * (rows / 384))) _ p in
        let y = and_parts (leb 1 (rows / 384) && leb (rows / 384) 16) _ x.0 in
        let z = and_parts (leb 1 (rows / 384)) _ y.0 in
        (subst (λ i. i ≤ 16) k (leb-true _ _ z.1), eqb-true _ _ y.1 ∙ ap (λ i. 384 * i) k, eqb-true _ _ x.1 ∙ ap (λ i. 9 * i) k)

read_back : {X E : Type 0} {x y : X} → ◌≡◌ {A = Result X E} (Ok x) (Ok y) → x ≡ y
read_back e = cc

is_pass : (v : Verdict) → is_passed (Some v) ≡ true → v ≡ Passed
is_pass Passed p = refl
is_pass (Failed x) p = cc

module _ {W : Type 0} (m : Meaning W) where
  -- a schedule is passed only where it compares so with the source that is held
  pass_means : (r : ℕ) (es : List Event) → is_passed (held m r es).verdict ≡ true → is_passed (compared m (held m r es).source (held m r es).schedule) ≡ true
  pass_means r [] p = cc
  pass_means r (e ∷ es) p = go (counts r e) e.call p (pass_means r es)
    where
      go : (b : Bool) (c : Request) → is_passed (cond b (held_after m c (held m r es)) (held m r es)).verdict ≡ true
          → (is_passed (held m r es).verdict ≡ true → is_passed (compared m (held m r es).source (held m r es).schedule) ≡ true)
          → is_passed (compared m (cond b (held_after m c (held m r es)) (held m r es)).source (cond b (held_after m c (held m r es)) (held m r es)).schedule) ≡ true
      go false c q k = k q
      go true (call.Source s t) q k = cc
      go true (call.Schedule s t) q k = cc
      go true (call.Check s lent) q k = q
      go true (call.HandOut s) q k = k q
      go true (call.Drop s) q k = cc

  -- it stays so under calls that put nothing else in
  pass_stays : (r : ℕ) (later earlier : List Event) → passed m r earlier ≡ true → Untouched r later → passed m r (later ++ earlier) ≡ true
  pass_stays r [] earlier p u = p
  pass_stays r (e ∷ later) earlier p u = go (counts r e) e.call u.0 (pass_stays r later earlier p u.1)
    where
      go : (b : Bool) (c : Request) → (b && alters c) ≡ false → passed m r (later ++ earlier) ≡ true
          → is_passed (cond b (held_after m c (held m r (later ++ earlier))) (held m r (later ++ earlier))).verdict ≡ true
      go false c q k = k
      go true (call.Source s t) q k = cc
      go true (call.Schedule s t) q k = cc
      go true (call.Check s lent) q k = pass_means r (later ++ earlier) k
      go true (call.HandOut s) q k = k
      go true (call.Drop s) q k = cc

  -- what a passed region holds
  pub record Passes (h : Held) : Type 0 where
    pub source : Source
    pub schedule : Schedule
    pub holds_source : h.source ≡ Some source
    pub holds_schedule : h.schedule ≡ Some schedule
    pub compares : verdict_of m source schedule ≡ Passed

  passes : (r : ℕ) (es : List Event) → passed m r es ≡ true → Passes (held m r es)
  passes r es p = go (held m r es).source (held m r es).schedule refl refl (pass_means r es p)
    where
      go : (o : Option Source) (x : Option Schedule) → (held m r es).source ≡ o → (held m r es).schedule ≡ x → is_passed (compared m o x) ≡ true → Passes (held m r es)
      go None x i j q = cc
      go (Some s) None i j q = cc
      go (Some s) (Some x) i j q = record { source = s; schedule = x; holds_source = i; holds_schedule = j; compares = is_pass (verdict_of m s x) q }

-- a shelf that was just opened
module _ {W : Type 0} (m : Meaning W) (terms : ℕ) where
  pub opened_kept : (st : Store) (n : ℕ) → opening (length st.rows) (length st.labels) ≡ Ok n → Kept m terms n (opened st n) []
  opened_kept st n e =
      let f = opening_fits (length st.rows) (length st.labels) n e in
      record {
        few = f.0;
        holds = same_store n refl (ap (λ k. replicate k blank) f.1 ∙ sym (blank_in_order 384 blank n)) (ap (λ k. replicate k unused) f.2 ∙ sym (blank_in_order 9 unused n));
        answers = tt;
      }

module _ {W : Type 0} (m : Meaning W) (laws : Lawful m) (terms n : ℕ) (few : n ≤ 16) where
  abbrev then : List Event → ℕ → Held
  then es q = held m q es

  fits : (es : List Event) (q : ℕ) → Fits (held m q es)
  fits es q = held_fits m q es

  -- each event of a list has its answer
  each : (later earlier : List Event) (e : Event) → AllAnswered m terms n (later ++ (e ∷ earlier)) → AllAnswered m terms n (e ∷ earlier)
  each [] earlier e a = a
  each (l ∷ later) earlier e a = each later earlier e a.1

  -- a call on a region that the shelf has not is declined
  declined : (es : List Event) (c : Request) → n ≤ region_of_request c → is_ok (answer_to m terms (stored n (then es)) c) ≡ false
  declined es (call.Source r t) h = ap (λ o. is_ok (on_granted (λ _. Done) o)) (source_by m n few (then es) (fits es) r t false (le-ltb r n h))
  declined es (call.Schedule r t) h = ap (λ o. is_ok (on_granted (λ _. Done) o)) (schedule_by m n few (then es) (fits es) r t false (le-ltb r n h))
  declined es (call.Check r lent) h =
      ap (λ o. is_ok (on_granted Judged o)) (check_by m n few (then es) (fits es) r (min lent terms) (ltb (min lent terms) 512) false refl (le-ltb r n h))
      ∙ go (ltb (min lent terms) 512)
    where
      go : (a : Bool) → is_ok (on_granted Judged (cond a (Err (without_place number.Sizes)) (Err (without_place number.Region)))) ≡ false
      go true = refl
      go false = refl
  declined es (call.HandOut r) h = ap (λ o. is_ok (on_granted (λ _. HandedOut) o)) (hand_out_by m n few (then es) (fits es) r false (le-ltb r n h))
  declined es (call.Drop r) h = ap (λ o. is_ok (on_granted (λ _. Done) o)) (region_known n (then es) (fits es) few r false (le-ltb r n h))

  -- and so it never holds anything
  outside : (r : ℕ) → n ≤ r → (es : List Event) → AllAnswered m terms n es → held m r es ≡ nothing
  outside r h [] a = refl
  outside r h (e ∷ es) a = go (counts r e) refl (outside r h es a.1)
    where
      go : (b : Bool) → counts r e ≡ b → held m r es ≡ nothing → cond b (held_after m e.call (held m r es)) (held m r es) ≡ nothing
      go false p k = k
      go true p k =
          let q = and_parts (is_ok e.answer) _ p in
          let x = declined es e.call (subst (λ i. n ≤ i) (sym (eqb-true _ _ q.1)) h) in
          let y = ap is_ok a.0 in
          cc

  inside : (r : ℕ) (es : List Event) → AllAnswered m terms n es → passed m r es ≡ true → r < n
  inside r es a p = ⊎_elim (λ l. l) (λ h. let q = ap (λ k. is_passed k.verdict) (outside r h es a) in cc) (cases_lt r n)

  rightly : (es : List Event) (r lent : ℕ) (v : Verdict) → Ok (Judged v) ≡ answer_to m terms (stored n (then es)) (call.Check r lent) → Rightly m v (held m r es)
  rightly es r lent v p =
      go (ltb (min lent terms) 512) (ltb r n) (held m r es).source (held m r es).schedule refl refl
      (p ∙ ap (on_granted Judged) (check_by m n few (then es) (fits es) r (min lent terms) (ltb (min lent terms) 512) (ltb r n) refl refl))
    where
      go : (a b : Bool) (o : Option Source) (x : Option Schedule) → (held m r es).source ≡ o → (held m r es).schedule ≡ x
          → Ok (Judged v) ≡ on_granted Judged (cond a (Err (without_place number.Sizes)) (cond b (judged_by m o x) (Err (without_place number.Region)))) → Rightly m v (held m r es)
      go true b o x i j q = cc
      go false false o x i j q = cc
      go false true None x i j q = cc
      go false true (Some s) None i j q = cc
      go false true (Some s) (Some x) i j q =
          let k : v ≡ verdict_of m s x = cc in
          record {
            source = s;
            schedule = x;
            holds_source = i;
            holds_schedule = j;
            compares = k;
            derived_passes = λ d. k ∙ complete m (live_in s.labels) (source_line s) (schedule_line x) d;
          }

  handed_out : (es : List Event) (r : ℕ) (a : Answer) → AllAnswered m terms n es → a ≡ answer_to m terms (stored n (then es)) (call.HandOut r)
      → (a ≡ Ok HandedOut) ↔ (passed m r es ≡ true)
  handed_out es r a k p = (
    λ e. forth (ltb r n) (held m r es).source (held m r es).schedule (passed m r es) (sym e ∙ p ∙ ap (on_granted (λ _. HandedOut)) (hand_out_by m n few (then es) (fits es) r (ltb r n) refl)),
    λ e. let w = passes m r es e in
        p ∙ ap (on_granted (λ _. HandedOut)) (hand_out_by m n few (then es) (fits es) r true (lt-ltb r n (inside r es k e)))
        ∙ (λ i. on_granted (λ _. HandedOut) (handed (w.holds_source i) (w.holds_schedule i) (e i))),
  )
    where
      forth : (b : Bool) (o : Option Source) (x : Option Schedule) (w : Bool) → Ok HandedOut ≡ on_granted (λ _. HandedOut) (cond b (handed o x w) (Err (without_place number.Region))) → w ≡ true
      forth b o x true q = refl
      forth false o x false q = cc
      forth true None x false q = cc
      forth true (Some s) None false q = cc
      forth true (Some s) (Some x) false q = cc

  runs_alike : (es : List Event) (r : ℕ) → r < n → passed m r es ≡ true → RunsAlike m (stored n (then es)) r (held m r es)
  runs_alike es r l p =
      let w = passes m r es p in
      let s = w.source in
      let x = w.schedule in
      let same = (passed_means (basis_of m s) (source_line s) (schedule_line x) w.compares).0 in
      record {
        source = s;
        schedule = x;
        holds_source = w.holds_source;
        holds_schedule = w.holds_schedule;
        entries = same;
        source_runs = λ e le σ long.
            source_run_by m n few (then es) (fits es) r l s x w.holds_source w.holds_schedule e σ long (subst (λ k. e ≤ k) (joins_said [] [] 0 0 s.rows) le);
        schedule_runs = λ e le σ long.
            schedule_run_by m n few (then es) (fits es) r l s x w.holds_source w.holds_schedule e σ long
            (subst (λ k. e ≤ k) (same ∙ joins_said x.exits x.entries 0 0 x.rows) le);
        alike = sound m laws (live_in s.labels) (source_line s) (schedule_line x) w.compares;
      }

  reads : (es : List Event) (r : ℕ) → r < n → reading (stored n (then es)) r ≡ Ok (record_of (held m r es))
  reads es r l =
      ap (λ b. cond b (Ok (get_or (stored n (then es)).regions r empty_region)) (Err (without_place number.Region))) (lt-ltb r n l)
      ∙ ap Ok (record_at n (then es) (fits es) few r l)

  at_region : (es : List Event) (r : ℕ) → r < n → AtRegion m (stored n (then es)) es r
  at_region es r l = record {
    runs = runs_alike es r l;
    reads = reads es r l;
    marks = λ k e. let q : k ≡ record_of (held m r es) = read_back (sym e ∙ reads es r l) in ap (λ j. is_passed j.mark) q;
    hands_out = hand_out_by m n few (then es) (fits es) r true (lt-ltb r n l);
    stays = λ later earlier e p u. subst (λ z. passed m r z ≡ true) (sym e) (pass_stays m r later earlier p u);
  }

pub lawful : {W : Type 0} (m : Meaning W) → Lawful m → (terms n : ℕ) (st : Store) (es : List Event) → Kept m terms n st es → Law m n terms st es
lawful m laws terms n st es k = record {
  holds = k.holds;
  answers = λ later earlier e p. (each m laws terms n k.few later earlier e (subst (AllAnswered m terms n) p k.answers)).0;
  checks = λ later earlier r lent v p.
      rightly m laws terms n k.few earlier r lent v (each m laws terms n k.few later earlier _ (subst (AllAnswered m terms n) p k.answers)).0;
  hand_outs = λ later earlier r a p.
      let w = each m laws terms n k.few later earlier _ (subst (AllAnswered m terms n) p k.answers) in
      handed_out m laws terms n k.few earlier r a w.1 w.0;
  regions = λ r l. subst (λ s. AtRegion m s es r) (sym k.holds) (at_region m laws terms n k.few es r l);
}

-- What a text says fits its places.
use Rattle.std.proofs.Common.{◌≡◌, ℕ, zero, suc, ◌+◌, ◌<◌, ◌≤◌, Bool, true, false, cond, ltb, List, [], ◌∷◌, ◌++◌, length, get_or, take, drop, replicate, Some, None, Ok, Err, Option, Result, refl, ◌∙◌, subst, zero-le, arith, length-drop, length-take}
use Rattle.std.proofs.lemmas.List.{length_push, length-set}
use Rattle.std.proofs.lemmas.Bool.{ltb-true, leb-true, and_parts}
use Rattle.region.specs.declared.label.LabelRow.{LabelRow}
use Rattle.region.specs.Numbers.{LabelNumber}
use Rattle.region.specs.declared.row.Row.{Row}
use Rattle.region.specs.declared.row.Row.TheVariants as row
use Rattle.region.specs.Pieces.{piece_takes, put_in}
use Rattle.region.specs.Rows.{main_fits, exits_in, joins_in}
use Rattle.region_text.specs.declared.fault.Fault.TheVariants.{OutOfPlace}
use Rattle.region_text.specs.declared.fault.FieldFault.{FieldFault}
use Rattle.region_text.specs.declared.fault.LineFault.{LineFault}
use Rattle.region_text.specs.declared.fault.LineFault.TheVariants.{Line}
use Rattle.region_text.specs.declared.fault.Refusal.{Refusal}
use Rattle.region_text.specs.declared.letter.Letter.{Letter}
use Rattle.region_text.specs.declared.letter.Letter.TheVariants.{Declare, Operate, Literal, Load, Store, Exit, Join, End, ExitPiece, JoinPiece}
use Rattle.region_text.specs.Faults.{refusal_of}
use Rattle.region_text.specs.Letters.{form}
use Rattle.region_text.specs.Records.{label_row, label_in, operate_row, literal_row, load_row, store_row, exit_row, piece_in}
use Rattle.region_text.specs.Schedules as schedules
use Rattle.region_text.specs.Schedules.{Scheduling, Schedule, nothing_scheduled, schedule_of, read_schedule}
use Rattle.region_text.specs.Sources as sources
use Rattle.region_text.specs.Sources.{Reading, Source, nothing_read, source_of, read_source}
use Rattle.region_text.specs.Taking.{placed, taken, or_unended, all_taken, whole}
use Rattle.region_text.specs.Texts.{TextLine, LineFields, fields, lines}

-- no piece has more than sixteen rows
abbrev pub Short : List (List Row) → Type 0
Short [] = Unit {0}
Short (p ∷ ps) = (length p ≤ 16) × Short ps

pub record SourceFits (s : Source) : Type 0 where
  pub labels : length s.labels ≤ 9
  pub rows : length s.rows ≤ 96

pub record ScheduleFits (x : Schedule) : Type 0 where
  pub rows : length x.rows ≤ 96
  pub exits : Short x.exits
  pub entries : Short x.entries
  pub eight : length x.exits ≡ 8
  pub four : length x.entries ≡ 4

-- what is granted under a test passed it
granted : {X E : Type 0} (b : Bool) (x y : X) (e : E) → cond b (Ok x) (Err e) ≡ Ok y → (b ≡ true) × (x ≡ y)
granted true x y e p = (refl, cc)
granted false x y e p = cc

fits_rows : (rs : List Row) → main_fits rs ≡ true → length rs ≤ 96
fits_rows rs e = leb-true _ _ (and_parts _ _ (and_parts _ _ e).0).0

-- what holds of nothing read and is kept by each line, holds of all that was read
module _ {S X : Type 0} (take_line : S → ℕ → TextLine → Result S LineFault) (end_of : S → Option LabelNumber) (k : S → LabelNumber → X) (P : S → Type 0) (Q : X → Type 0)
    (line : (s : S) (l : ℕ) (x : TextLine) (t : S) → take_line s l x ≡ Ok t → P s → P t)
    (end : (s : S) (e : LabelNumber) → P s → Q (k s e)) where
  finished : (l : ℕ) (s : S) (o : Option LabelNumber) (y : X) → whole k (or_unended l s o) ≡ Ok y → P s → Q y
  finished l s None y e p = cc
  finished l s (Some n) y e p = let z : k s n ≡ y = cc in subst Q z (end s n p)

  pub all_fit : (xs : List TextLine) (s : S) (l : ℕ) (y : X) → whole k (all_taken take_line end_of s l xs) ≡ Ok y → P s → Q y
  all_fit [] s l y e p = finished l s (end_of s) y e p
  all_fit (x ∷ xs) s l y e p = go (take_line s l x) refl e (λ t. all_fit xs t (l + 1) y)
    where
      go : (r : Result S LineFault) → take_line s l x ≡ r → ◌≡◌ {A = Result X Refusal} (whole k (elim r [ Err f ↦ Err (refusal_of f) | Ok t ↦ all_taken take_line end_of t (l + 1) xs ])) (Ok y)
          → ((t : S) → whole k (all_taken take_line end_of t (l + 1) xs) ≡ Ok y → P t → Q y) → Q y
      go (Err f) q d k = cc
      go (Ok t) q d k = k t d (line s l x t q p)

-- a line is taken only where its record is known and in its place
module _ {S : Type 0} (in_place : Letter → S → Bool) (take_record : Letter → S → LineFields → Result S LineFault) (P : S → Type 0)
    (record_fits : (c : Letter) (s : S) (x : LineFields) (t : S) → take_record c s x ≡ Ok t → P s → P t) where
  in_its_place : (c : Letter) (s : S) (x : LineFields) (t : S) (b : Bool) → cond b (take_record c s x) (Err (Line OutOfPlace x.number)) ≡ Ok t → P s → P t
  in_its_place c s x t true d p = record_fits c s x t d p
  in_its_place c s x t false d p = cc

  placed_fits : (s : S) (x : LineFields) (t : S) (c : Option Letter) → placed in_place take_record s x c ≡ Ok t → P s → P t
  placed_fits s x t None e p = cc
  placed_fits s x t (Some c) e p = in_its_place c s x t (in_place c s) e p

  pub line_fits : (s : S) (l : ℕ) (x : TextLine) (t : S) → taken in_place take_record s l x ≡ Ok t → P s → P t
  line_fits s l x t = placed_fits s (record { number = l; fields = fields x.bytes }) t (form x)

-- sources
pub record ReadingFits (r : Reading) : Type 0 where
  pub labels : length r.labels ≤ 9
  pub rows : length r.rows ≤ 96

declare_fits : (r : Reading) (l : ℕ) (o : Result LabelRow FieldFault) (t : Reading) → sources.declare r l o ≡ Ok t → ReadingFits r → ReadingFits t
declare_fits r l (Err f) t e p = cc
declare_fits r l (Ok x) t e p =
    let g = granted (ltb (length r.labels) 9) _ t _ e in
    subst ReadingFits g.1 (record { labels = omega (arith, length_push r.labels x, ltb-true _ _ g.0); rows = p.rows })

source_keep_fits : (r : Reading) (l : ℕ) (o : Result Row FieldFault) (t : Reading) → sources.keep r l o ≡ Ok t → ReadingFits r → ReadingFits t
source_keep_fits r l (Err f) t e p = cc
source_keep_fits r l (Ok x) t e p =
    let g = granted (main_fits (r.rows ++ x ∷ [])) _ t _ e in
    subst ReadingFits g.1 (record { labels = p.labels; rows = fits_rows (r.rows ++ x ∷ []) g.0 })

source_finish_fits : (r : Reading) (o : Result LabelNumber FieldFault) (t : Reading) → sources.finish r o ≡ Ok t → ReadingFits r → ReadingFits t
source_finish_fits r (Err f) t e p = cc
source_finish_fits r (Ok x) t e p =
    let q : record r { end = Some x } ≡ t = cc in
    subst ReadingFits q (record { labels = p.labels; rows = p.rows })

source_record_fits : (c : Letter) (r : Reading) (x : LineFields) (t : Reading) → sources.take_record c r x ≡ Ok t → ReadingFits r → ReadingFits t
source_record_fits Declare r x t e p = declare_fits r x.number (label_row x r.labels) t e p
source_record_fits Operate r x t e p = source_keep_fits r x.number (operate_row x) t e p
source_record_fits Literal r x t e p = source_keep_fits r x.number (literal_row x) t e p
source_record_fits Load r x t e p = source_keep_fits r x.number (load_row x) t e p
source_record_fits Store r x t e p = source_keep_fits r x.number (store_row x) t e p
source_record_fits Exit r x t e p = source_keep_fits r x.number (exit_row x r.labels) t e p
source_record_fits Join r x t e p = source_keep_fits r x.number (Ok row.Join) t e p
source_record_fits End r x t e p = source_finish_fits r (label_in x r.labels 1) t e p
source_record_fits ExitPiece r x t e p = cc
source_record_fits JoinPiece r x t e p = cc

-- what a source's text says fits its places
pub source_fits : (bs : List ℕ) (s : Source) → read_source bs ≡ Ok s → SourceFits s
source_fits bs s e =
    all_fit sources.take_line sources.end_of source_of ReadingFits SourceFits
    (line_fits sources.in_place sources.take_record ReadingFits source_record_fits)
    (λ r n p. record { labels = p.labels; rows = p.rows })
    (lines bs) nothing_read 1 s e (record { labels = zero-le; rows = zero-le })

-- schedules
short_take : (n : ℕ) (ps : List (List Row)) → Short ps → Short (take n ps)
short_take zero ps h = tt
short_take (suc n) [] h = tt
short_take (suc n) (p ∷ ps) h = (h.0, short_take n ps h.1)

short_drop : (n : ℕ) (ps : List (List Row)) → Short ps → Short (drop n ps)
short_drop zero ps h = h
short_drop (suc n) [] h = tt
short_drop (suc n) (p ∷ ps) h = short_drop n ps h.1

short_put : (ps : List (List Row)) (p : ℕ) (x : Row) → Short ps → length (get_or ps p []) < 16 → Short (put_in ps p x)
short_put [] p x h l = tt
short_put (q ∷ ps) zero x h l = (omega (arith, length_push q x), h.1)
short_put (q ∷ ps) (suc p) x h l = (h.0, short_put ps p x h.1 l)

pub record SchedulingFits (s : Scheduling) : Type 0 where
  pub rows : length s.rows ≤ 96
  pub short : Short s.pieces
  pub twelve : length s.pieces ≡ 12

add_fits : (s : Scheduling) (l : ℕ) (x : Row) (at : Option ℕ) (t : Scheduling) → schedules.add s l x at ≡ Ok t → SchedulingFits s → SchedulingFits t
add_fits s l x None t e p =
    let g = granted (main_fits (s.rows ++ x ∷ [])) _ t _ e in
    subst SchedulingFits g.1 (record { rows = fits_rows (s.rows ++ x ∷ []) g.0; short = p.short; twelve = p.twelve })
add_fits s l x (Some q) t e p =
    let g = granted (piece_takes s.pieces q) _ t _ e in
    subst SchedulingFits g.1
    (record { rows = p.rows; short = short_put s.pieces q x p.short (ltb-true _ _ (and_parts _ _ g.0).1); twelve = length-set s.pieces q (get_or s.pieces q [] ++ x ∷ []) ∙ p.twelve })

schedule_keep_fits : (s : Scheduling) (l : ℕ) (o : Result Row FieldFault) (t : Scheduling) → schedules.keep s l o ≡ Ok t → SchedulingFits s → SchedulingFits t
schedule_keep_fits s l (Err f) t e p = cc
schedule_keep_fits s l (Ok x) t e p = add_fits s l x s.at t e p

schedule_finish_fits : (s : Scheduling) (o : Result LabelNumber FieldFault) (t : Scheduling) → schedules.finish s o ≡ Ok t → SchedulingFits s → SchedulingFits t
schedule_finish_fits s (Err f) t e p = cc
schedule_finish_fits s (Ok x) t e p =
    let q : record s { end = Some x } ≡ t = cc in
    subst SchedulingFits q (record { rows = p.rows; short = p.short; twelve = p.twelve })

head_fits : (s : Scheduling) (l : ℕ) (o : Result ℕ FieldFault) (t : Scheduling) → schedules.head s l o ≡ Ok t → SchedulingFits s → SchedulingFits t
head_fits s l (Err f) t e p = cc
head_fits s l (Ok x) t e p =
    let g = granted (schedules.rises s.at x) _ t _ e in
    subst SchedulingFits g.1 (record { rows = p.rows; short = p.short; twelve = p.twelve })

schedule_record_fits : (c : Letter) (s : Scheduling) (x : LineFields) (t : Scheduling) → schedules.take_record c s x ≡ Ok t → SchedulingFits s → SchedulingFits t
schedule_record_fits Declare s x t e p = cc
schedule_record_fits Operate s x t e p = schedule_keep_fits s x.number (operate_row x) t e p
schedule_record_fits Literal s x t e p = schedule_keep_fits s x.number (literal_row x) t e p
schedule_record_fits Load s x t e p = schedule_keep_fits s x.number (load_row x) t e p
schedule_record_fits Store s x t e p = schedule_keep_fits s x.number (store_row x) t e p
schedule_record_fits Exit s x t e p = schedule_keep_fits s x.number (exit_row x s.labels) t e p
schedule_record_fits Join s x t e p = schedule_keep_fits s x.number (Ok row.Join) t e p
schedule_record_fits End s x t e p = schedule_finish_fits s (label_in x s.labels 1) t e p
schedule_record_fits ExitPiece s x t e p = head_fits s x.number (piece_in x 0 (exits_in s.rows)) t e p
schedule_record_fits JoinPiece s x t e p = head_fits s x.number (piece_in x 8 (joins_in s.rows)) t e p

-- what a schedule's text says fits its places
pub schedule_fits : (labels : List LabelRow) (bs : List ℕ) (x : Schedule) → read_schedule labels bs ≡ Ok x → ScheduleFits x
schedule_fits labels bs x e =
    all_fit schedules.take_line schedules.end_of schedule_of SchedulingFits ScheduleFits
    (line_fits schedules.in_place schedules.take_record SchedulingFits schedule_record_fits)
    (λ s n p.
    record {
      rows = p.rows;
      exits = short_take 8 s.pieces p.short;
      entries = short_drop 8 s.pieces p.short;
      eight = simp length-take (omega (arith, p.twelve));
      four = simp length-drop (omega (arith, p.twelve));
    })
    (lines bs) (nothing_scheduled labels) 1 x e (record { rows = zero-le; short = none_long 12; twelve = refl })
  where
    none_long : (n : ℕ) → Short (replicate n [])
    none_long zero = tt
    none_long (suc n) = (zero-le, none_long n)

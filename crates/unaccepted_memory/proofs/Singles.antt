-- What is claimed is in one place only.
use Rattle.std.proofs.Common.{◌≡◌, ℕ, ◌⊎◌, List, [], ◌∷◌, length, sym, refl, ap, ◌∙◌, subst, inl, inr}
use Rattle.bitmap.specs.Marks.{units_cleared}
use Rattle.bitmap.proofs.MarkLaws.{length_written}
use Rattle.efi_table.specs.declared.layout.Range.{Range}
use Rattle.efi_table.specs.Shapes.{Shape, overlap_of}
use Rattle.unaccepted_memory.specs.Runs.{Run, EveryRun}
use Rattle.unaccepted_memory.specs.Plans.{addresses_of}
use Rattle.unaccepted_memory.specs.Calls.{bitmap_of, runs_over, accept_in, claim_first, claim_in, settle_in, restore_in}
use Rattle.unaccepted_memory.specs.History.{being_registered, Moment, Answer, counted, claimed, none, restored, refused, by_count, by_claim, by_restoring, Event, Without, Opened, Spent, Accepts, Claims, Settles, Restores, Step, registers, accepts, claims, settles, restores, History, begun, built, called}
use Rattle.unaccepted_memory.specs.Promises.{◌∈◌, Holds, Marked, Claimed, Disjoint, Single, ClaimsSingle}
use Rattle.unaccepted_memory.proofs.UnitLaws.{set_cases_at, cleared_at, clear_less_at}
use Rattle.unaccepted_memory.proofs.ClaimLaws.{without_rest, without_cases, put_back, disjoint_out, disjoint_in}
use Rattle.unaccepted_memory.proofs.StepLaws.{Table, Good, came, words_after}
use Rattle.unaccepted_memory.proofs.FullRuns.{FullRun, full_runs, full_marked}
use Rattle.unaccepted_memory.proofs.Accepting.{accept_less, accept_long}
use Rattle.unaccepted_memory.proofs.Restoring.{own_claim, restored_words}
use Rattle.unaccepted_memory.proofs.Steps.{stepped}
use Rattle.unaccepted_memory.proofs.Histories.{built_phase, good_built, good_start}

-- no claim is open while ranges are registered
abbrev Free : Moment → Type 0
Free m = m.phase ≡ being_registered → m.claims ≡ []

no_claims : (h : Shape) (m : Moment) → m.claims ≡ [] → Single h m
no_claims h m e = record { unmarked = λ a i. none a (rw e at i); disjoint = rw e tt }
  where
    none : (a : ℕ) {A : Type 0} → Claimed [] a → A
    none a (c, i, k) = elim i [ ]

-- fewer marks and fewer claims
module _ (h : Shape) (m n : Moment) (s : Single h m) where
  fewer : ((a : ℕ) → Claimed n.claims a → Claimed m.claims a) → ((a : ℕ) → Marked h (bitmap_of h n.image) a → Marked h (bitmap_of h m.image) a)
      → Disjoint n.claims → Single h n
  fewer f g d = record { unmarked = λ a i j. s.unmarked a (f a i) (g a j); disjoint = d }

module _ (h : Shape) (table : Table h) (m : Moment) (e : Event) (n : Moment) (good : Good h m) (s : Single h m) where
  accept_single : Accepts h m e n → Single h n
  accept_single d =
      let w = words_after h m e n by_count (accept_in h m.replies d.window (bitmap_of h m.image)) good.image
      (came h m e n good by_count (accept_in h m.replies d.window) d.comes) (accept_long h table m e n good d) in
      fewer h m n s (λ a i. rw d.claims at i) (λ a i. accept_less h table m e n good d a (subst (λ (ws : List ℕ). Marked h ws a) w i)) (rw d.claims s.disjoint)

  claim_by : (rs : List Run) → EveryRun (FullRun (bitmap_of h m.image)) rs → bitmap_of h n.image ≡ (claim_first h (bitmap_of h m.image) rs).words
      → Opened (by_claim (claim_first h (bitmap_of h m.image) rs).answer) m.claims n.claims → Single h n
  claim_by [] full w same = fewer h m n s (λ a i. rw same at i) (λ a i. rw w at i) (rw same s.disjoint)
  claim_by (r ∷ rs) full w opened =
      record {
        unmarked = λ a i j. unmarked a i.0 i.2 (without_cases (addresses_of h r) opened i.0 i.1) (subst (λ (ws : List ℕ). Marked h ws a) w j);
        disjoint = disjoint_in (addresses_of h r) opened s.disjoint (λ a i j. s.unmarked a j (full_marked h table.unit (bitmap_of h m.image) r a full.0 i));
      }
    where
      unmarked : (a : ℕ) (c : Range) → Holds c a → (c ≡ addresses_of h r) ⊎ (c ∈ m.claims) → Marked h (units_cleared (bitmap_of h m.image) r.first r.behind) a → ⊥
      unmarked a c i (inl q) j = cleared_at h (bitmap_of h m.image) r a table.unit (subst (λ (x : Range). Holds x a) q i) j
      unmarked a c i (inr q) j = s.unmarked a (c, q, i) (clear_less_at h (bitmap_of h m.image) r a j)

  claim_long : (rs : List Run) → length (claim_first h (bitmap_of h m.image) rs).words ≡ length (bitmap_of h m.image)
  claim_long [] = refl
  claim_long (r ∷ rs) = length_written 0 (bitmap_of h m.image) r.first r.behind

  claim_single : Claims h m e n → Single h n
  claim_single d =
      let c = came h m e n good by_claim (claim_in h d.window) d.comes in
      let rs = runs_over h (bitmap_of h m.image) d.window in
      claim_by rs (full_runs (bitmap_of h m.image) (overlap_of h d.window.start d.window.end))
      (words_after h m e n by_claim (claim_in h d.window (bitmap_of h m.image)) good.image c (claim_long rs))
      (subst (λ (x : Answer). Opened x m.claims n.claims) c.answer d.claims)

  -- a claim that was handed in is spent or handed back
  back_in : (c : Range) (others : List Range) → Without c m.claims others → (x : Answer) → Spent x c others n.claims
      → ((d : Range) → d ∈ n.claims → d ∈ m.claims) × Disjoint n.claims
  back_in c others out (refused t) back =
      let r = disjoint_out c out s.disjoint in
      (put_back c back out, disjoint_in c back r.0 r.1)
  back_in c others out (counted k) rest = (λ d i. without_rest c out d (rw rest at i), rw rest (disjoint_out c out s.disjoint).0)
  back_in c others out (claimed k) rest = (λ d i. without_rest c out d (rw rest at i), rw rest (disjoint_out c out s.disjoint).0)
  back_in c others out none rest = (λ d i. without_rest c out d (rw rest at i), rw rest (disjoint_out c out s.disjoint).0)
  back_in c others out restored rest = (λ d i. without_rest c out d (rw rest at i), rw rest (disjoint_out c out s.disjoint).0)

  settle_single : Settles h m e n → Single h n
  settle_single d =
      let w = words_after h m e n by_count (settle_in m.replies d.handed (bitmap_of h m.image)) good.image
      (came h m e n good by_count (settle_in m.replies d.handed) d.comes) refl in
      let b = back_in d.handed d.others d.in_hand e.answer d.claims in
      fewer h m n s (λ a i. (i.0, b.0 i.0 i.1, i.2)) (λ a i. subst (λ (ws : List ℕ). Marked h ws a) w i) b.1

  restore_single : Restores h m e n → Single h n
  restore_single d =
      let o = own_claim h table m e n good d in
      let c = came h m e n good by_restoring (restore_in h d.handed) d.comes in
      let rest : n.claims ≡ d.others = subst (λ (x : Answer). Spent x d.handed d.others n.claims) c.answer d.claims in
      let out = disjoint_out d.handed d.in_hand s.disjoint in
      let words = restored_words h table m e n good d in
      let w = words_after h m e n by_restoring (restore_in h d.handed (bitmap_of h m.image)) good.image c
      (ap length words ∙ length_written 1 (bitmap_of h m.image) o.units.first o.units.behind) in
      record {
        unmarked = λ a i j. unmarked a o.units (rw rest at i) out o.is (set_cases_at h (bitmap_of h m.image) o.units a (subst (λ (ws : List ℕ). Marked h ws a) (w ∙ words) j));
        disjoint = rw rest out.0;
      }
    where
      unmarked : (a : ℕ) (r : Run) → Claimed d.others a → Disjoint d.others × ((a : ℕ) → Holds d.handed a → Claimed d.others a → ⊥) → d.handed ≡ addresses_of h r
          → Holds (addresses_of h r) a ⊎ Marked h (bitmap_of h m.image) a → ⊥
      unmarked a r i out is (inl q) = out.1 a (subst (λ (x : Range). Holds x a) (sym is) q) i
      unmarked a r i out is (inr q) = s.unmarked a (i.0, without_rest d.handed d.in_hand i.0 i.1, i.2) q

  single_step : Free m → Step h m e n → Single h n × Free n
  single_step free (registers d) = let z : n.claims ≡ [] = d.claims ∙ free d.phase in (no_claims h n z, λ _. z)
  single_step free (accepts d) = (accept_single d, λ q. built_phase n.phase (d.comes.phase ∙ d.phase) q)
  single_step free (claims d) = (claim_single d, λ q. built_phase n.phase (d.comes.phase ∙ d.phase) q)
  single_step free (settles d) = (settle_single d, λ q. built_phase n.phase (d.comes.phase ∙ d.phase) q)
  single_step free (restores d) = (restore_single d, λ q. built_phase n.phase (d.comes.phase ∙ d.phase) q)

singles : (h : Shape) → Table h → (es : List Event) (m o : Moment) → Good h m → Single h m → Free m → History h es m o → Single h o
singles h table es m o good s free begun = s
singles h table es m o good s free (built {n = n} b rest) =
    singles h table es n o (good_built h m n b good) (fewer h m n s (λ a i. rw b.claims at i) (λ a i. rw b.image at i) (rw b.claims s.disjoint))
    (λ q. built_phase n.phase b.after q) rest
singles h table es m o good s free (called {e = e} {es = fs} {n = n} x rest) =
    let d = single_step h table m e n good s free x in
    singles h table fs n o (stepped h table m e n good x).good d.0 d.1 rest

pub claims_single : ClaimsSingle
claims_single h start now es l history =
    singles h (record { unit = l.unit; words = l.words }) es start now (good_start h start l) (no_claims h start l.claims) (λ _. l.claims) history

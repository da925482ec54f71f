-- What one call keeps.
use Rattle.std.proofs.Common.{◌≡◌, ℕ, ◌/◌, ◌%◌, ◌<◌, ◌≤◌, true, ◌⊎◌, List, length, take, drop, Result, sym, ap, ◌∙◌, subst, inl, inr, arith}
use Rattle.fault.specs.Refusals.{Told}
use Rattle.host.specs.Pages.{Pages, accepted}
use Rattle.host.specs.Replies.{since, after}
use Rattle.host.specs.Laws.{Sounds}
use Rattle.host.proofs.Soundness.{sounds_since, after_keeps}
use Rattle.efi_table.specs.declared.layout.Range.{Range}
use Rattle.efi_table.specs.Shapes.{Shape, units_of, bitmap_end}
use Rattle.efi_table.specs.Images.{is_image}
use Rattle.unaccepted_memory.specs.Runs.{Run}
use Rattle.unaccepted_memory.specs.Plans.{Walk, requests_of, Outcome, addresses_of}
use Rattle.unaccepted_memory.specs.Calls.{bitmap_of, in_image, on_image}
use Rattle.unaccepted_memory.specs.History.{being_registered, Moment, Answer, refused, Event, Comes}
use Rattle.unaccepted_memory.specs.Promises.{◌∈◌, Holds, Marked, Claimed, HandedTo, Succeeded, Safe, accepted_page, marked_unit, open_claim, count_in, Tidy}
use Rattle.unaccepted_memory.proofs.PlanLaws.{Made, Numbered}
use Rattle.unaccepted_memory.proofs.ImageLaws.{bitmap_after, header_after, behind_after, own_after, on_own}
use Rattle.unaccepted_memory.proofs.WalkLaws.{Moves, walks_move, tidy}

-- what is known of a table from its start on
pub record Table (h : Shape) : Type 0 where
  pub unit : 0 < h.unit
  pub words : h.length % 8 ≡ 0

-- a claim is of a run of the table's units
pub record OwnClaim (h : Shape) (c : Range) : Type 0 where
  pub units : Run
  pub is : c ≡ addresses_of h units
  pub some : units.first < units.behind
  pub fits : units.behind ≤ units_of h

-- what is known of every moment
pub record Good (h : Shape) (m : Moment) : Type 0 where
  pub image : is_image h m.image ≡ true
  pub even : m.phase ≡ being_registered → h.base % h.unit ≡ 0
  pub claims : (c : Range) → c ∈ m.claims → OwnClaim h c
  pub host : Sounds m.replies m.pages

-- the addresses that are marked or claimed: those that a call can reach
abbrev pub Loose : Shape → Moment → ℕ → Type 0
Loose h m a = Marked h (bitmap_of h m.image) a ⊎ Claimed m.claims a

-- or that are handed to registering by it
abbrev pub Reached : Shape → Moment → Event → ℕ → Type 0
Reached h m e a = Loose h m a ⊎ HandedTo e a

pub record Stepped (h : Shape) (m : Moment) (e : Event) (n : Moment) : Type 0 where
  pub good : Good h n
  pub safe : (a : ℕ) → Safe h m a → Safe h n a
  pub owed : (a : ℕ) → HandedTo e a → Succeeded e → Safe h n a
  pub loose : (a : ℕ) → Loose h n a → Reached h m e a
  pub moves : Moves (Reached h m e) m.pages n.pages
  pub count : count_in e.answer ≡ length (requests_of e.walks)
  pub replies : n.replies ≡ since (requests_of e.walks) m.replies
  pub pages : n.pages ≡ after m.replies (requests_of e.walks) m.pages
  pub walks : (w : Walk) → w ∈ e.walks → Tidy w
  pub not_wrong : (t : Told) → e.answer ≡ refused t → t.refusal ≡ 6 → ⊥
  pub header : take 3 n.image ≡ take 3 m.image
  pub behind : drop (bitmap_end h) n.image ≡ drop (bitmap_end h) m.image

-- an address is in custody once the walks of an outcome are made
abbrev pub Ends : {A : Type 0} → Shape → Moment → Moment → Outcome A → ℕ → Type 0
Ends h m n p a = (after m.replies (requests_of p.walks) m.pages (a / 4096) ≡ accepted) ⊎ (Marked h p.words a ⊎ Claimed n.claims a)

-- What a call does to the bitmap: p is its outcome there. The fields are those of a step that its plan does not give at once.
pub record Effect (h : Shape) (m : Moment) (e : Event) (n : Moment) {A : Type 0} (by : Result A Told → Answer) (p : Outcome A) : Type 0 where
  pub long : length p.words ≡ length (bitmap_of h m.image)
  pub made : Made m.replies p.walks
  pub count : count_in (by p.answer) ≡ length (requests_of p.walks)
  pub number : (t : Told) → by p.answer ≡ refused t → Numbered t
  pub claims : (c : Range) → c ∈ n.claims → OwnClaim h c
  -- a marked address stays marked, is accepted, or is claimed; so does a claimed one
  pub marks : (a : ℕ) → Marked h (bitmap_of h m.image) a → Ends h m n p a
  pub claimed : (a : ℕ) → Claimed m.claims a → Ends h m n p a
  pub owed : (a : ℕ) → HandedTo e a → Succeeded e → Ends h m n p a
  pub new_marks : (a : ℕ) → Marked h p.words a → Reached h m e a
  pub new_claims : (a : ℕ) → Claimed n.claims a → Reached h m e a
  pub spans : (w : Walk) → w ∈ p.walks → (a : ℕ) → Holds w.span a → Reached h m e a

not_six : (t : Told) → Numbered t → t.refusal ≡ 6 → ⊥
not_six t (inl x) e = omega arith
not_six t (inr (inl x)) e = omega arith
not_six t (inr (inr x)) e = omega arith

-- a call on the table's image works on its bitmap
pub came_own : (h : Shape) (m : Moment) (e : Event) (n : Moment) {A : Type 0} (by : Result A Told → Answer) (f : List ℕ → Outcome A)
    → is_image h m.image ≡ true → Comes m e n by (on_image h m.image f) → Comes m e n by (in_image h m.image (f (bitmap_of h m.image)))
came_own h m e n by f own comes = rw (on_own h m.image f own) at comes

pub words_after : (h : Shape) (m : Moment) (e : Event) (n : Moment) {A : Type 0} (by : Result A Told → Answer) (p : Outcome A) → is_image h m.image ≡ true
    → Comes m e n by (in_image h m.image p) → length p.words ≡ length (bitmap_of h m.image) → bitmap_of h n.image ≡ p.words
words_after h m e n by p own c long = ap (bitmap_of h) c.image ∙ bitmap_after h m.image p.words own long

module _ (h : Shape) (m : Moment) (e : Event) (n : Moment) (good : Good h m) {A : Type 0} (by : Result A Told → Answer)
    (f : List ℕ → Outcome A) (comes : Comes m e n by (on_image h m.image f)) where
  abbrev pub p : Outcome A
  p = f (bitmap_of h m.image)

  pub came : Comes m e n by (in_image h m.image p)
  came = came_own h m e n by f good.image comes

  pub step : Effect h m e n by p → Stepped h m e n
  step d =
      record {
        good = record {
          image = rw came.image (own_after h m.image p.words good.image d.long);
          even = λ q. good.even (sym came.phase ∙ q);
          claims = d.claims;
          host = rw (came.replies, came.pages) (sounds_since m.replies m.pages (requests_of p.walks) good.host);
        };
        safe = safely;
        owed = λ a i k. ends a (d.owed a i k);
        loose = loosely;
        moves = rw came.pages (walks_move (Reached h m e) p.walks m.replies m.pages good.host d.made d.spans);
        count = ap count_in came.answer ∙ d.count ∙ ap (λ (l : List Walk). length (requests_of l)) (sym came.walks);
        replies = came.replies ∙ ap (λ (l : List Walk). since (requests_of l) m.replies) (sym came.walks);
        pages = came.pages ∙ ap (λ (l : List Walk). after m.replies (requests_of l) m.pages) (sym came.walks);
        walks = λ w i. tidy p.walks m.replies m.pages good.host d.made w (subst (λ (l : List Walk). w ∈ l) came.walks i);
        not_wrong = λ t q. not_six t (d.number t (sym came.answer ∙ q));
        header = ap (take 3) came.image ∙ header_after h m.image p.words good.image d.long;
        behind = ap (drop (bitmap_end h)) came.image ∙ behind_after h m.image p.words good.image d.long;
      }
    where
      bitmap_is : bitmap_of h n.image ≡ p.words
      bitmap_is = words_after h m e n by p good.image came d.long

      ends : (a : ℕ) → Ends h m n p a → Safe h n a
      ends a (inl q) = accepted_page (ap (λ (X : Pages). X (a / 4096)) came.pages ∙ q)
      ends a (inr (inl q)) = marked_unit (subst (λ (ws : List ℕ). Marked h ws a) (sym bitmap_is) q)
      ends a (inr (inr q)) = open_claim q

      safely : (a : ℕ) → Safe h m a → Safe h n a
      safely a (accepted_page q) = ends a (inl (after_keeps m.replies (requests_of p.walks) m.pages (a / 4096) q))
      safely a (marked_unit q) = ends a (d.marks a q)
      safely a (open_claim q) = ends a (d.claimed a q)

      loosely : (a : ℕ) → Loose h n a → Reached h m e a
      loosely a (inl q) = d.new_marks a (subst (λ (ws : List ℕ). Marked h ws a) bitmap_is q)
      loosely a (inr q) = d.new_claims a q

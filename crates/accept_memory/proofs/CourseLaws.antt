-- What a walk on its course keeps when it goes down a level, and asks for.
use Rattle.std.proofs.Common.{◌≡◌, ℕ, ◌+◌, ◌-◌, ◌<◌, refl, arith}
use Rattle.accept_memory.specs.Walks.{State, asking, finished, misaligned, refused, View}
use Rattle.accept_memory.specs.Courses.{OnCourse}
use Rattle.accept_memory.proofs.Places.{Placed, PlacedIn, block_lower}

asked_level : (l m : ℕ) → asking l ≡ asking m → l ≡ m
asked_level l m e = cc

never_refused : (l m : ℕ) → asking l ≡ refused m → ⊥
never_refused l m e = let z : ◌≡◌ {A = ℕ} 0 1 = cc in omega arith

pub course_lower : (next end count status status' l : ℕ) → 0 < l → OnCourse next end count status (asking l) → OnCourse next end (count + 1) status' (asking (l - 1))
course_lower next end count status status' l some c =
    let low = c.asked l refl in
    let b = block_lower next end l some (record { low = low; aligned = c.fits l refl; ends = c.room l refl }) in
    let few = c.few l refl in
    record {
      asked = λ m e. let is = asked_level (l - 1) m e in omega arith;
      ended = λ m e. absurd (never_refused (l - 1) m e);
      fits = λ m e. rw (← asked_level (l - 1) m e) b.aligned;
      room = λ m e. rw (← asked_level (l - 1) m e) b.ends;
      few = λ m e. let is = asked_level (l - 1) m e in omega arith;
      failed = λ m e. absurd (never_refused (l - 1) m e);
    }

-- a walk on its course asks only for a block that fits
pub walk_placed : (w : View) → OnCourse w.next w.end w.count w.status w.state → Placed w
walk_placed w c = at w.state refl
  where
    at : (s : State) → w.state ≡ s → PlacedIn s w.next w.end
    at (asking l) e = record { low = c.asked l e; aligned = c.fits l e; ends = c.room l e }
    at finished e = tt
    at misaligned e = tt
    at (refused l) e = tt

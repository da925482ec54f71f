-- The worked cases hold.
use Rattle.std.proofs.Common.{◌≡◌, ℕ, ◌≤◌, true, List, [], ◌∷◌, length, get_or, Err, refl, ap, ◌∙◌, arith}
use Rattle.std.proofs.lemmas.Grind.{common_steps}
use Rattle.host.specs.Pages.{pending, accepting, covers}
use Rattle.host.specs.Replies.{Replies}
use Rattle.host.proofs.Soundness.{unrolled_now}
use Rattle.host_models.specs.Map.{map_reply, map_next, map_replies, map_pages, map_level, page_of, Tells, invalid, missing, already, smaller, success}
use Rattle.host_models.proofs.Map.{map_tells, byte_in, within}
use Rattle.accept_memory.specs.Walks.{replied, begun, ended, asked, answer_of, walk_answer, walk_requests, misaligned_at}
use Rattle.cases.specs.Worked.{AllPending, Worked}

byte_pending : (b : ℕ) → (1 ≤ b) × (b ≤ 3) → page_of b ≡ pending
byte_pending b h = grind (arith, common_steps)

module _ (L : List ℕ) (long : 2 ≤ length L) (all : AllPending L) where
  abbrev R : Replies
  R = map_replies 0 (length L) L

  page_one : map_pages 0 (length L) L 1 ≡ pending
  page_one = ap page_of (byte_in 0 (length L) L 1 (omega arith) (omega arith)) ∙ byte_pending (get_or L 1 0) (all 1 0 (omega arith))

  only : (p : ℕ) → covers 0 0x1000 p ≡ true → p ≡ 1
  only p t = omega (arith, within 0 0x1000 p t)

  -- the page at 0x1000 is accepted at once
  granted : (r : ℕ) → Tells (map_pages 0 (length L) L) (map_level 0 (length L) L) 0 0x1000 r → r ≡ 0
  granted r (invalid e n) = absurd (n (record { low = omega arith; aligned = refl }))
  granted r (missing e v p t h) = let here = only p t in cc page_one
  granted r (already e v n p t h) = let here = only p t in cc page_one
  granted r (smaller e v n p t h) = absurd (omega arith)
  granted r (success e v h) = e

  first_reply : R [] (accepting 0 0x1000) ≡ 0
  first_reply = rw (unrolled_now (map_reply 0 (length L)) (map_next 0 (length L)) L) (granted _ (map_tells 0 (length L) L 0 0x1000))

  one_request : walk_requests R 0x1000 0x2800 ≡ accepting 0 0x1000 ∷ []
  unfolding asked
  one_request = refl

  refused_by_1 : walk_answer R 0x1000 0x2800 ≡ Err (misaligned_at 0x2000 1)
  unfolding ended
  refused_by_1 = ap (λ (r : ℕ). answer_of (replied (begun 0x1000 0x2800) r)) first_reply

pub worked : Worked
worked = record {
  size_of_one_word = refl;
  size_of_two_words = refl;
  built_too_high = λ held. refl;
  built_below = λ held h. grind (arith, common_steps);
  one_request = one_request;
  refused_by_1 = refused_by_1;
}

-- The worked cases, each by its numbers.
use Rattle.std.specs.Prelude.{◌≡◌, ℕ, ◌≤◌, List, [], ◌∷◌, length, All, Ok, Err}
use Rattle.fault.specs.declared.AcceptError.TheVariants.{ArithmeticOverflow}
use Rattle.host.specs.Pages.{accepting}
use Rattle.host_models.specs.Map.{map_replies}
use Rattle.efi_table.specs.Layouts.{size_asked, building}
use Rattle.efi_table.specs.Shapes.{shape}
use Rattle.accept_memory.specs.Walks.{walk_answer, walk_requests, misaligned_at}

-- every page of a map of the bytes L is pending
abbrev pub AllPending : List ℕ → Type 0
AllPending L = All (λ b. (1 ≤ b) × (b ≤ 3)) L

pub record Worked : Type 0 where
  -- a table for [0x40000000, 0x48000000) takes 32 bytes, and one for an address more takes 40
  pub size_of_one_word : size_asked 0x40000000 0x48000000 ≡ Ok 32
  pub size_of_two_words : size_asked 0x40000000 0x48000001 ≡ Ok 40
  -- building refuses [0xFFFFFFFFFFC00000, 0xFFFFFFFFFFE00000) by 4 in any image,
  pub built_too_high : (held : ℕ) → building 0xFFFFFFFFFFC00000 0xFFFFFFFFFFE00000 held ≡ Err ArithmeticOverflow
  -- and [0xFFFFFFFFF7E00000, 0xFFFFFFFFF8000000) passes in an image of four words and more
  pub built_below : (held : ℕ) → 4 ≤ held → building 0xFFFFFFFFF7E00000 0xFFFFFFFFF8000000 held ≡ Ok (shape 0x200000 0xFFFFFFFFF7E00000 8)
  -- over a map from address 0 with all pages pending, a walk of [0x1000, 0x2800) makes one request, for the page at 0x1000,
  pub one_request : (L : List ℕ) → 2 ≤ length L → AllPending L → walk_requests (map_replies 0 (length L) L) 0x1000 0x2800 ≡ accepting 0 0x1000 ∷ []
  -- and then is refused by 1, at address 0x2000
  pub refused_by_1 : (L : List ℕ) → 2 ≤ length L → AllPending L → walk_answer (map_replies 0 (length L) L) 0x1000 0x2800 ≡ Err (misaligned_at 0x2000 1)

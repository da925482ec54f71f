-- The map host: one byte a page. What it replies, what its bytes are afterwards, and its pages.
use Rattle.std.specs.Prelude.{◌≡◌, ℕ, zero, suc, ◌+◌, ◌-◌, ◌/◌, ◌%◌, ◌^◌, ◌<◌, ◌≤◌, Bool, true, false, if◌then◌else◌, not, ◌&&◌, ◌||◌, List, [], ◌∷◌, map, length, take, drop, ◌==◌, ◌≢◌, nat_le, nat_lt, slice_index}
use Rattle.std.specs.List.{range_with_len}
use Rattle.tdcall.specs.declared.TdCallError.TheVariants.{TdxOperandInvalid, TdxOperandAddrRangeError, TdxPageAlreadyAccepted, TdxPageSizeMismatch}
use Rattle.tdcall.specs.Statuses.{status_of}
use Rattle.host.specs.Pages.{Page, absent, pending, accepted, Pages, Request, accepting, size, covers}
use Rattle.host.specs.Replies.{Replies, Lent, unrolled}
use Rattle.host.specs.States.{HostState}

-- What a byte says of its page: 1, 2, 3 pending and mapped at level 0, 1, 2; 4 accepted; 0 and every other absent.
abbrev pub page_of : ℕ → Page
page_of b = if b == 4 then accepted else (if nat_le 1 b && nat_le b 3 then pending else absent)

-- the level at which the page of a byte is mapped, where it is pending
abbrev pub level_of : ℕ → ℕ
level_of b = b - 1

-- The byte of page p, in a map of at most c pages from page number f on, a byte each; a page outside has 0.
abbrev pub byte_of : ℕ → ℕ → List ℕ → ℕ → ℕ
byte_of f c L p = if nat_le f p then slice_index (take c L) (p - f) else 0

abbrev pub map_pages : ℕ → ℕ → List ℕ → Pages
map_pages f c L p = page_of (byte_of f c L p)

abbrev pub map_level : ℕ → ℕ → List ℕ → ℕ → ℕ
map_level f c L p = level_of (byte_of f c L p)

abbrev pub is_absent : Page → Bool
is_absent absent = true
is_absent pending = false
is_absent accepted = false

abbrev pub is_accepted : Page → Bool
is_accepted absent = false
is_accepted pending = false
is_accepted accepted = true

-- does some number pass the test, of the n numbers from p on
unfoldable pub some_of : (ℕ → Bool) → ℕ → ℕ → Bool
some_of test p zero = false
some_of test p (suc n) = test p || some_of test (p + 1) n

-- does some page pass the test, of those in the block of level l at address a
abbrev pub some_page : (ℕ → Bool) → ℕ → ℕ → Bool
some_page test l a = some_of test (a / 4096) (512 ^ l)

-- the reply to a request: the first that fits
unfoldable pub map_reply : ℕ → ℕ → List ℕ → Request → ℕ
map_reply f c L (accepting l a) =
    if nat_lt 2 l || not (a % size l == 0) then status_of TdxOperandInvalid
    else (if some_page (λ p. is_absent (map_pages f c L p)) l a then status_of TdxOperandAddrRangeError
    else (if some_page (λ p. is_accepted (map_pages f c L p)) l a then status_of TdxPageAlreadyAccepted
    else (if some_page (λ p. nat_lt (map_level f c L p) l) l a then status_of TdxPageSizeMismatch else 0)))

-- the bytes once every page of a block is accepted
abbrev pub block_accepted : ℕ → ℕ → ℕ → List ℕ → List ℕ
block_accepted f l a L = map (λ i. if covers l a (f + i) then 4 else slice_index L i) (range_with_len 0 (length L))

-- the bytes after a request: a zero reply accepts the block, and another changes none
unfoldable pub map_next : ℕ → ℕ → List ℕ → Request → List ℕ
map_next f c L (accepting l a) = if map_reply f c L (accepting l a) == 0 then block_accepted f l a L else L

abbrev pub map_replies : ℕ → ℕ → List ℕ → Replies
map_replies f c = unrolled (map_reply f c) (map_next f c)

-- the bytes after the requests of a list, the first of them first
abbrev pub map_after : ℕ → ℕ → List ℕ → Lent
map_after f c = unrolled (λ L. L) (map_next f c)

-- a map of at most c pages from page number f on, over the bytes L that are lent to it by the name given
abbrev pub map_state : ℕ → ℕ → ℕ → List ℕ → HostState
map_state f c name L = record { replies = map_replies f c L; pages = map_pages f c L; lent = map_after f c L; fixed = f ∷ c ∷ name ∷ [] }

-- a level from 0 to 2 and an address that is a multiple of its size
pub record Valid (l a : ℕ) : Type 0 where
  pub low : l ≤ 2
  pub aligned : a % size l ≡ 0

-- What each reply of a map tells of the pages P, each pending one mapped at the level that M gives it.
pub data Tells (P : Pages) (M : ℕ → ℕ) (l a r : ℕ) : Type 0 where
  -- operand invalid: the level is above 2, or the address no multiple of its size
  invalid : r ≡ status_of TdxOperandInvalid → (Valid l a → ⊥) → Tells P M l a r
  -- address range: a page of the block is outside or absent
  missing : r ≡ status_of TdxOperandAddrRangeError → Valid l a → (p : ℕ) → covers l a p ≡ true → P p ≡ absent → Tells P M l a r
  -- already accepted: none is absent, and one is accepted
  already : r ≡ status_of TdxPageAlreadyAccepted → Valid l a → ((p : ℕ) → covers l a p ≡ true → P p ≢ absent)
      → (p : ℕ) → covers l a p ≡ true → P p ≡ accepted → Tells P M l a r
  -- size mismatch: all are pending, and one is mapped below the level
  smaller : r ≡ status_of TdxPageSizeMismatch → Valid l a → ((p : ℕ) → covers l a p ≡ true → P p ≡ pending)
      → (p : ℕ) → covers l a p ≡ true → M p < l → Tells P M l a r
  -- zero: all are pending and mapped at the level or above
  success : r ≡ 0 → Valid l a → ((p : ℕ) → covers l a p ≡ true → (P p ≡ pending) × (l ≤ M p)) → Tells P M l a r

-- What the bytes M after reply r are, of a map that held L.
pub record Leaves (f c : ℕ) (L M : List ℕ) (l a r : ℕ) : Type 0 where
  -- zero makes every byte of the block 4
  pub inside : r ≡ 0 → (i : ℕ) → covers l a (f + i) ≡ true → slice_index M i ≡ 4
  -- and leaves every other
  pub outside : r ≡ 0 → (i : ℕ) → covers l a (f + i) ≡ false → slice_index M i ≡ slice_index L i
  -- another reply leaves all
  pub refused : (r ≢ 0) → M ≡ L
  -- what stands behind the map's pages is left, and there are as many bytes as before
  pub behind : drop c M ≡ drop c L
  pub long : length M ≡ length L

abbrev pub MapTells : ℕ → ℕ → List ℕ → Request → Type 0
MapTells f c L (accepting l a) = Tells (map_pages f c L) (map_level f c L) l a (map_reply f c L (accepting l a))

abbrev pub MapLeaves : ℕ → ℕ → List ℕ → Request → Type 0
MapLeaves f c L (accepting l a) = Leaves f c L (map_next f c L (accepting l a)) l a (map_reply f c L (accepting l a))

-- Every reply of every map tells what it should of the pages, and leaves the bytes that it should.
pub record MapLaw : Type 0 where
  pub tells : (f c : ℕ) (L : List ℕ) (q : Request) → MapTells f c L q
  pub leaves : (f c : ℕ) (L : List ℕ) (q : Request) → MapLeaves f c L q

-- Finding accepts tables only, and refuses none.
use Rattle.std.proofs.Common.{◌≡◌, ℕ, zero, suc, ◌+◌, ◌*◌, ◌/◌, ◌%◌, ◌^◌, ◌<◌, ◌≤◌, Bool, true, false, cond, not, ◌&&◌, eqb, ltb, List, [], ◌∷◌, length, get_or, take, drop, Some, None, Ok, Err, Option, Result, sym, refl, ap, ◌∙◌, subst, inl, inr, arith, length-drop, rules}
use Rattle.std.specs.Int.{is_power_of_two}
use Rattle.std.specs.List.{find}
use Rattle.std.specs.Option.{option_map}
use Rattle.efi_entries.specs.declared.Entry.{Entry}
use Rattle.std.proofs.lemmas.List.{drop-drop, ext_get_or, get_or-drop, get_or-take, length-take-le}
use Rattle.std.proofs.lemmas.Bool.{and_from, and_parts, cases_eq, cond-false, cond-true, eq-eqb, eqb-false, eqb-true, lt-ltb, le-ltb, ltb-true, ne_eqb, not_from_true}
use Rattle.fault.specs.declared.AcceptError.{AcceptError}
use Rattle.fault.specs.declared.AcceptError.TheVariants.{BadEntries}
use Rattle.efi_table.specs.Shapes.{Shape, covered_end, bitmap_end}
use Rattle.efi_table.specs.Images.{decoded_from, first_word, written}
use Rattle.efi_entries.specs.Entries.{little_endian, table_guid, guid_of, pointer_of, entries, entries_of, first_pointer, pointing, pointer_in, may_lie, whole, table_at, found}
use Rattle.efi_entries.specs.Tables.{Bytes, Finds, Table, entry_at, guid}
use Rattle.efi_table.proofs.Powers.{power_is, power_of}

-- ---- bytes and their little-endian number

same_number : (n i : ℕ) (xs ys : List ℕ) → ((j : ℕ) → j < i + n → get_or xs j 0 ≡ get_or ys j 0) → little_endian n i xs ≡ little_endian n i ys
same_number zero i xs ys e = refl
same_number (suc n) i xs ys e = omega (arith, e i (omega arith), same_number n (suc i) xs ys (λ j h. e j (omega arith)))

same_bytes :
    (n i : ℕ) (xs ys : List ℕ) → Bytes xs → Bytes ys → little_endian n i xs ≡ little_endian n i ys
    → (j : ℕ) → i ≤ j → j < i + n → get_or xs j 0 ≡ get_or ys j 0
same_bytes zero i xs ys p q e j l h = absurd (omega arith)
same_bytes (suc n) i xs ys p q e j l h =
    elim (cases_eq i j) [
      | inl is ↦
          let P : ℕ → Type 0 = λ x. get_or xs x 0 ≡ get_or ys x 0 in
          let t : P i = omega (arith, p i, q i) in
          subst P is t
      | inr other ↦ same_bytes n (suc i) xs ys p q (omega (arith, p i, q i)) j (omega arith) (omega arith)
    ]

abbrev all_below : List ℕ → Bool
all_below [] = true
all_below (x ∷ xs) = ltb x 256 && all_below xs

all_bytes : (xs : List ℕ) → all_below xs ≡ true → Bytes xs
all_bytes [] e i = omega arith
all_bytes (x ∷ xs) e zero = ltb-true _ _ (and_parts _ (all_below xs) e).0
all_bytes (x ∷ xs) e (suc i) = all_bytes xs (and_parts _ (all_below xs) e).1 i

guid_bytes : Bytes guid
guid_bytes = all_bytes guid refl

entry_bytes : (j : ℕ) (bs : List ℕ) → Bytes bs → Bytes (entry_at j bs)
entry_bytes j bs b i = rw get_or-drop (b (24 * j + i))

-- an entry has the table's GUID exactly if it has its number
guid_number : (xs : List ℕ) → take 16 xs ≡ guid → guid_of xs ≡ table_guid
guid_number xs e =
    same_number 16 0 xs guid (λ j h. sym (get_or-take 16 xs j 0 h) ∙ ap (λ (l : List ℕ). get_or l j 0) e)

guid_is : (xs : List ℕ) → Bytes xs → 16 ≤ length xs → guid_of xs ≡ table_guid → take 16 xs ≡ guid
guid_is xs b l e =
    let n : length (take 16 xs) ≡ 16 = length-take-le 16 xs l in
    ext_get_or 0 (take 16 xs) guid n
    (λ i h. let k : i < 16 = omega arith in get_or-take 16 xs i 0 k ∙ same_bytes 16 0 xs guid b guid_bytes e i (omega arith) k)

-- ---- the first match

-- the pointer of the first of n entries whose GUID is the table's
abbrev first_of : ℕ → List ℕ → Option ℕ
first_of n bs = option_map (λ (e : Entry). e.pointer) (find (λ e. eqb e.guid table_guid) (entries_of n bs))

record First (n : ℕ) (bs : List ℕ) (p : ℕ) : Type 0 where
  entry : ℕ
  there : entry < n
  here : guid_of (entry_at entry bs) ≡ table_guid
  none : (j : ℕ) → j < entry → guid_of (entry_at j bs) ≡ table_guid → ⊥
  pointer : p ≡ pointer_of (entry_at entry bs)

next_entry : (j : ℕ) (bs : List ℕ) → entry_at j (drop 24 bs) ≡ entry_at (suc j) bs
next_entry j bs = let e : 24 + 24 * j ≡ 24 * suc j = omega arith in drop-drop (24 * j) 24 bs ∙ ap (λ (n : ℕ). drop n bs) e

first_step : (n : ℕ) (bs : List ℕ) → first_of (suc n) bs ≡ cond (eqb (guid_of bs) table_guid) (Some (pointer_of bs)) (first_of n (drop 24 bs))
first_step n bs = by (eqb (guid_of bs) table_guid)
  where
    by : (t : Bool) → option_map (λ (e : Entry). e.pointer) (cond t (Some (record { guid = guid_of bs; pointer = pointer_of bs })) (find (λ e. eqb e.guid table_guid) (entries_of n (drop 24 bs)))) ≡ cond t (Some (pointer_of bs)) (first_of n (drop 24 bs))
    by true = refl
    by false = refl

first_is : (n : ℕ) (bs : List ℕ) (p : ℕ) → first_of n bs ≡ Some p → First n bs p
first_is zero bs p e = cc
first_is (suc n) bs p e = by (eqb (guid_of bs) table_guid) refl (sym (first_step n bs) ∙ e) (first_is n (drop 24 bs) p)
  where
    by : (t : Bool) → eqb (guid_of bs) table_guid ≡ t → cond t (Some (pointer_of bs)) (first_of n (drop 24 bs)) ≡ Some p → (first_of n (drop 24 bs) ≡ Some p → First n (drop 24 bs) p)
        → First (suc n) bs p
    by true t e f = record { entry = 0; there = omega arith; here = eqb-true _ _ t; none = λ j h. absurd (omega arith); pointer = cc }
    by false t e f =
        let g = f e in
        record {
          entry = suc g.entry;
          there = omega (arith, g.there);
          here = ap guid_of (sym (next_entry g.entry bs)) ∙ g.here;
          none = none g;
          pointer = g.pointer ∙ ap pointer_of (next_entry g.entry bs);
        }
      where
        none : (g : First n (drop 24 bs) p) (j : ℕ) → j < suc g.entry → guid_of (entry_at j bs) ≡ table_guid → ⊥
        none g zero h m = eqb-false _ _ t m
        none g (suc j) h m = g.none j (omega arith) (ap guid_of (next_entry j bs) ∙ m)

first_at :
    (n j : ℕ) (bs : List ℕ) → j < n → guid_of (entry_at j bs) ≡ table_guid → ((i : ℕ) → i < j → guid_of (entry_at i bs) ≡ table_guid → ⊥)
    → first_of n bs ≡ Some (pointer_of (entry_at j bs))
first_at zero j bs h m o = absurd (omega arith)
first_at (suc n) zero bs h m o = first_step n bs ∙ cond-true _ _ _ (eq-eqb _ _ m)
first_at (suc n) (suc j) bs h m o =
    first_step n bs
    ∙ cond-false _ _ _ (ne_eqb _ _ (o 0 (omega arith)))
    ∙ first_at n j (drop 24 bs) (omega arith) (ap guid_of (next_entry j bs) ∙ m) (λ i l e. o (suc i) (omega arith) (ap guid_of (sym (next_entry i bs)) ∙ e))
    ∙ ap (λ (l : List ℕ). Some (pointer_of l)) (next_entry j bs)

-- ---- the checks, one after another

record Pointed (bs : List ℕ) (p : ℕ) : Type 0 where
  entries : length bs % 24 ≡ 0
  first : first_pointer bs ≡ Some p
  present : 0 < p

pointed : (bs : List ℕ) (p : ℕ) (o : Option ℕ) → first_pointer bs ≡ o → cond (not (eqb (length bs % 24) 0)) (Err BadEntries) (pointing o) ≡ Ok p → Pointed bs p
pointed bs p None f e = search rules
pointed bs p (Some q) f e = search rules

record Decoded (placed : Bool) (img : List ℕ) (s : Shape) : Type 0 where
  may : placed ≡ true
  words : written s ≡ take 3 img
  power : is_power_of_two s.unit ≡ true
  some : 0 < s.length
  whole : s.length % 8 ≡ 0
  ends : covered_end s < 2 ^ 64

decoded_is : (placed : Bool) (img : List ℕ) (s : Shape) → decoded_from placed img ≡ Ok s → Decoded placed img s
decoded_is placed img s e = search rules

record Lies (img : List ℕ) (r : Result ℕ AcceptError) (s : Shape) : Type 0 where
  pointer : ℕ
  is : r ≡ Ok pointer
  header : decoded_from (may_lie pointer) img ≡ Ok s
  held : bitmap_end s ≤ length img

whole_is : (img : List ℕ) (d : Result Shape AcceptError) (s : Shape) → whole img d ≡ Ok s → (d ≡ Ok s) × (bitmap_end s ≤ length img)
whole_is img (Err e) s h = search rules
whole_is img (Ok d) s h = search rules

lies : (img : List ℕ) (r : Result ℕ AcceptError) (s : Shape) → table_at img r ≡ Ok s → Lies img r s
lies img (Err e) s h = search rules
lies img (Ok p) s h = let w = whole_is img _ s h in record { pointer = p; is = refl; header = w.0; held = w.1 }

-- the first match is that of all the entries
first_among : (bs : List ℕ) → first_pointer bs ≡ first_of (length bs / 24) bs
unfolding entries
first_among bs = refl

sound : (bs img : List ℕ) (s : Shape) → Bytes bs → found bs img ≡ Ok s → Table bs img s
sound bs img s b e =
    let l = lies img (pointer_in bs) s e in
    let q = pointed bs l.pointer (first_pointer bs) refl l.is in
    let f = first_is (length bs / 24) bs l.pointer (sym (first_among bs) ∙ q.first) in
    let d = decoded_is (may_lie l.pointer) img s l.header in
    let m = and_parts (eqb (l.pointer % 8) 0) _ d.may in
    let k = power_of s.unit d.power in
    let p = f.pointer in
    let there : 24 * f.entry + 24 ≤ length bs = omega (arith, f.there, q.entries) in
    let long : 16 ≤ length (entry_at f.entry bs) = omega (arith, length-drop (24 * f.entry) bs) in
    record {
      entries = q.entries;
      entry = f.entry;
      there = there;
      match = guid_is _ (entry_bytes f.entry bs b) long f.here;
      first = λ j h m. f.none j h (guid_number _ m);
      present = omega (arith, q.present);
      aligned = ap (λ (n : ℕ). n % 8) (sym p) ∙ eqb-true _ _ m.0;
      below = omega (arith, ltb-true _ _ m.1);
      words = d.words;
      power = k;
      some = d.some;
      whole = d.whole;
      ends = d.ends;
      held = l.held;
    }

word_is : (img : List ℕ) (s : Shape) (i : ℕ) → i < 3 → written s ≡ take 3 img → get_or img i 0 ≡ get_or (written s) i 0
word_is img s i h e = sym (get_or-take 3 img i 0 h) ∙ ap (λ (l : List ℕ). get_or l i 0) (sym e)

decoded_from_lem :
    (img : List ℕ) (s : Shape) → 3 ≤ length img → is_power_of_two s.unit ≡ true → 0 < s.length → s.length % 8 ≡ 0 → covered_end s < 2 ^ 64
    → get_or img 0 0 ≡ first_word s.unit → get_or img 1 0 ≡ s.base → get_or img 2 0 ≡ s.length → decoded_from true img ≡ Ok s
decoded_from_lem img s long power some whole ends a b c = search rules

complete : (bs img : List ℕ) (s : Shape) → Bytes bs → Table bs img s → found bs img ≡ Ok s
complete bs img s y t =
    let p : ℕ = pointer_of (entry_at t.entry bs) in
    let long : (j : ℕ) → j < t.entry → 16 ≤ length (entry_at j bs) = λ j h. omega (arith, length-drop (24 * j) bs, t.there) in
    let f : first_pointer bs ≡ Some p =
    first_among bs ∙ first_at (length bs / 24) t.entry bs (omega (arith, t.there)) (guid_number _ t.match)
    (λ j h m. t.first j h (guid_is _ (entry_bytes j bs y) (long j h) m)) in
    let points : pointer_in bs ≡ Ok p =
    cond-false _ _ _ (not_from_true _ (eq-eqb _ _ t.entries)) ∙ ap pointing f ∙ cond-false _ _ _ (ne_eqb p 0 (omega (arith, t.present))) in
    let placed : may_lie p ≡ true = and_from _ _ (eq-eqb _ _ t.aligned) (lt-ltb _ _ t.below) in
    let word : (i : ℕ) → i < 3 → get_or img i 0 ≡ get_or (written s) i 0 = λ i h. word_is img s i h t.words in
    let power : is_power_of_two s.unit ≡ true = ap is_power_of_two t.power.1 ∙ power_is t.power.0 in
    let reads : decoded_from true img ≡ Ok s =
    decoded_from_lem img s (omega (arith, t.held)) power t.some t.whole t.ends (word 0 (omega arith)) (word 1 (omega arith)) (word 2 (omega arith)) in
    ap (table_at img) points ∙ ap (λ (b : Bool). whole img (decoded_from b img)) placed ∙ ap (whole img) reads
    ∙ cond-false _ _ _ (le-ltb _ _ t.held)

pub finds : Finds
finds = record { sound = sound; complete = complete }

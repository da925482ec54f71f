-- What all calls of a history together keep.
use Rattle.std.proofs.Common.{◌≡◌, ℕ, ◌%◌, ◌⊎◌, List, [], ◌∷◌, length, take, drop, sym, refl, ap, ◌∙◌, subst, inl, inr, arith, length-append}
use mathlib.Core.List.Memᴰ
use Rattle.fault.specs.Refusals.{Told}
use Rattle.host.specs.Replies.{Replies, since, after}
use Rattle.host.proofs.Soundness.{since_append, after_append}
use Rattle.efi_table.specs.declared.layout.Range.{Range}
use Rattle.efi_table.specs.Shapes.{Shape, bitmap_end}
use Rattle.unaccepted_memory.specs.Plans.{Walk, requests_of}
use Rattle.unaccepted_memory.specs.Calls.{bitmap_of}
use Rattle.unaccepted_memory.specs.History.{Phase, being_registered, is_built, Moment, refused, Event, Builds, History, begun, built, called}
use Rattle.unaccepted_memory.specs.Promises.{◌∈◌, Marked, Fresh, just_zeroed, just_found, Lawful, HandedTo, Succeeded, Handed, Registered, Owed, Safe, accepted_page, marked_unit, open_claim, Changed, total, requests_in, Tidy, HistoryKeeps}
use Rattle.unaccepted_memory.proofs.WalkLaws.{Moved, Moves, moves_on, moves_more}
use Rattle.unaccepted_memory.proofs.StepLaws.{Table, OwnClaim, Good, Loose, Reached, Stepped}
use Rattle.unaccepted_memory.proofs.Steps.{stepped}

-- the addresses that calls from a moment on can reach
abbrev Reach : Shape → Moment → List Event → ℕ → Type 0
Reach h m es a = Loose h m a ⊎ Handed es a

-- what is kept from any moment on
record Keeps (h : Shape) (m : Moment) (es : List Event) (o : Moment) : Type 0 where
  good : Good h o
  safe : (a : ℕ) → Safe h m a → Safe h o a
  owed : (a : ℕ) → Registered es a → Safe h o a
  moves : Moves (Reach h m es) m.pages o.pages
  counts : total es ≡ length (requests_in es)
  received : o.replies ≡ since (requests_in es) m.replies
  pages : o.pages ≡ after m.replies (requests_in es) m.pages
  walks : (e : Event) → e ∈ es → (w : Walk) → w ∈ e.walks → Tidy w
  never_wrong : (e : Event) (t : Told) → e ∈ es → e.answer ≡ refused t → t.refusal ≡ 6 → ⊥
  header : take 3 o.image ≡ take 3 m.image
  behind : drop (bitmap_end h) o.image ≡ drop (bitmap_end h) m.image

nothing : (h : Shape) (m : Moment) → Good h m → Keeps h m [] m
unfolding after
nothing h m good = record {
  good = good;
  safe = λ a q. q;
  owed = λ a q. elim q.1 [ ];
  moves = λ p. inl refl;
  counts = refl;
  received = refl;
  pages = refl;
  walks = λ e i. elim i [ ];
  never_wrong = λ e t i. elim i [ ];
  header = refl;
  behind = refl;
}

-- a call more in front
module _ (h : Shape) (m n o : Moment) (e : Event) (es : List Event) (s : Stepped h m e n) (k : Keeps h n es o) where
  first : (a : ℕ) → Reached h m e a → Reach h m (e ∷ es) a
  first a (inl q) = inl q
  first a (inr q) = inr (e, Memᴰ.head refl, q)

  further : (a : ℕ) → Reach h n es a → Reach h m (e ∷ es) a
  further a (inl q) = first a (s.loose a q)
  further a (inr q) = inr (q.0, Memᴰ.tail q.1, q.2)

  owing : (a : ℕ) (x : Event) → x ∈ (e ∷ es) → HandedTo x a → Succeeded x → Safe h o a
  owing a x (Memᴰ.head q) i j = k.safe a (s.owed a (subst (λ (y : Event). HandedTo y a) q i) (subst Succeeded q j))
  owing a x (Memᴰ.tail q) i j = k.owed a (x, q, i, j)

  all_walks : (x : Event) → x ∈ (e ∷ es) → (w : Walk) → w ∈ x.walks → Tidy w
  all_walks x (Memᴰ.head q) w i = s.walks w (subst (λ (y : Event). w ∈ y.walks) q i)
  all_walks x (Memᴰ.tail q) w i = k.walks x q w i

  none_wrong : (x : Event) (t : Told) → x ∈ (e ∷ es) → x.answer ≡ refused t → t.refusal ≡ 6 → ⊥
  none_wrong x t (Memᴰ.head q) i = s.not_wrong t (ap (λ (y : Event). y.answer) (sym q) ∙ i)
  none_wrong x t (Memᴰ.tail q) i = k.never_wrong x t q i

  onward : Keeps h m (e ∷ es) o
  onward = record {
    good = k.good;
    safe = λ a q. k.safe a (s.safe a q);
    owed = λ a q. owing a q.0 q.1 q.2 q.3;
    moves = moves_on (Reach h m (e ∷ es)) m.pages n.pages o.pages
        (moves_more (Reached h m e) (Reach h m (e ∷ es)) m.pages n.pages first s.moves)
        (moves_more (Reach h n es) (Reach h m (e ∷ es)) n.pages o.pages further k.moves);
    counts = let c = s.count in let d = k.counts in omega (arith, length-append (requests_of e.walks) (requests_in es));
    received = k.received ∙ ap (since (requests_in es)) s.replies ∙ sym (since_append (requests_of e.walks) (requests_in es) m.replies);
    pages = k.pages
        ∙ ap (λ (R : Replies). after R (requests_in es) n.pages) s.replies
        ∙ ap (after (since (requests_of e.walks) m.replies) (requests_in es)) s.pages
        ∙ sym (after_append (requests_of e.walks) (requests_in es) m.replies m.pages);
    walks = all_walks;
    never_wrong = none_wrong;
    header = k.header ∙ s.header;
    behind = k.behind ∙ s.behind;
  }

-- the table is built, which changes nothing
module _ (h : Shape) (m n o : Moment) (es : List Event) (b : Builds m n) (k : Keeps h n es o) where
  safely : (a : ℕ) → Safe h m a → Safe h n a
  safely a (accepted_page q) = accepted_page (rw b.pages q)
  safely a (marked_unit q) = marked_unit (rw b.image q)
  safely a (open_claim q) = open_claim (rw b.claims q)

  reaching : (a : ℕ) → Reach h n es a → Reach h m es a
  reaching a (inl (inl q)) = inl (inl (rw b.image at q))
  reaching a (inl (inr q)) = inl (inr (rw b.claims at q))
  reaching a (inr q) = inr q

  after_building : Keeps h m es o
  after_building = record {
    good = k.good;
    safe = λ a q. k.safe a (safely a q);
    owed = k.owed;
    moves = moves_more (Reach h n es) (Reach h m es) m.pages o.pages reaching (rw b.pages at k.moves);
    counts = k.counts;
    received = rw b.replies at k.received;
    pages = rw (b.replies, b.pages) at k.pages;
    walks = k.walks;
    never_wrong = k.never_wrong;
    header = k.header ∙ ap (take 3) b.image;
    behind = k.behind ∙ ap (drop (bitmap_end h)) b.image;
  }

pub built_phase : {A : Type 0} (x : Phase) → x ≡ is_built → x ≡ being_registered → A
built_phase x p q = let z : ◌≡◌ {A = ℕ} 1 0 = ap number (sym p ∙ q) in absurd (omega arith)
  where
    number : Phase → ℕ
    number being_registered = 0
    number is_built = 1

pub good_built : (h : Shape) (m n : Moment) → Builds m n → Good h m → Good h n
good_built h m n b g = record {
  image = rw b.image g.image;
  even = λ q. built_phase n.phase b.after q;
  claims = rw b.claims g.claims;
  host = rw (b.replies, b.pages) g.host;
}

keeps : (h : Shape) → Table h → (es : List Event) (m o : Moment) → Good h m → History h es m o → Keeps h m es o
keeps h table es m o good begun = nothing h m good
keeps h table es m o good (built {n = n} b rest) = after_building h m n o es b (keeps h table es n o (good_built h m n b good) rest)
keeps h table es m o good (called {e = e} {es = fs} {n = n} s rest) =
    let d = stepped h table m e n good s in
    onward h m n o e fs d (keeps h table fs n o d.good rest)

pub good_start : (h : Shape) (m : Moment) → Lawful h m → Good h m
good_start h m l = record { image = l.image; even = even l.fresh; claims = none; host = l.host }
  where
    none : (c : Range) → c ∈ m.claims → OwnClaim h c
    none c i = elim (subst (λ (cs : List Range). c ∈ cs) l.claims i) [ ]

    even : Fresh h m → m.phase ≡ being_registered → h.base % h.unit ≡ 0
    even (just_zeroed p e z) q = e
    even (just_found p) q = built_phase m.phase p q

pub history_keeps : HistoryKeeps
history_keeps h start now es l history =
    record {
      custody = custody;
      confined = λ p. confined p (k.moves p);
      counts = k.counts;
      received = k.received;
      pages = k.pages;
      walks = k.walks;
      image = k.good.image;
      never_wrong = k.never_wrong;
      header = k.header;
      behind = k.behind;
    }
  where
    none : {A : Type 0} (c : Range) → c ∈ start.claims → A
    none c i = elim (subst (λ (cs : List Range). c ∈ cs) l.claims i) [ ]

    k : Keeps h start es now
    k = keeps h (record { unit = l.unit; words = l.words }) es start now (good_start h start l) history

    custody : (a : ℕ) → Owed h start es a → Safe h now a
    custody a (inl q) = k.safe a (marked_unit q)
    custody a (inr q) = k.owed a q

    ours : (a : ℕ) → Reach h start es a → Marked h (bitmap_of h start.image) a ⊎ Handed es a
    ours a (inl (inl q)) = inl q
    ours a (inl (inr q)) = none q.0 q.1
    ours a (inr q) = inr q

    confined : (p : ℕ) → (now.pages p ≡ start.pages p) ⊎ Moved (Reach h start es) start.pages now.pages p → (now.pages p ≡ start.pages p) ⊎ Changed h start es now p
    confined p (inl q) = inl q
    confined p (inr q) = inr (record { was = q.was; is = q.is; ours = λ a e. ours a (q.ours a e) })

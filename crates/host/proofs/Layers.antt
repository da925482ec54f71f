-- A lawful layer over a sound host is a sound host, and takes each request as its definition says.
use Rattle.std.proofs.Common.{◌≡◌, ℕ, List, [], ◌∷◌, sym, refl, ap, ◌∙◌}
use Rattle.host.specs.Pages.{Request, Pages, taken}
use Rattle.host.specs.Replies.{Replies, Lent, later, since, after, passed_on}
use Rattle.host.specs.States.{HostState, received, received_all}
use Rattle.host.specs.Laws.{Sounds}
use Rattle.host.specs.Layers.{Layer, Over, over, passed, layer_replies, layer_lent, layered, Lawful}
use Rattle.host.proofs.Soundness.{sounds_by, sounds_since, unrolled_now, unrolled_later}

-- a host by its parts
pub same_state : (R S : Replies) (P Q : Pages) (M N : Lent) (F : List ℕ) → R ≡ S → P ≡ Q → M ≡ N
    → ◌≡◌ {A = HostState} (record { replies = R; pages = P; lent = M; fixed = F }) (record { replies = S; pages = Q; lent = N; fixed = F })
same_state R S P Q M N F e f g = rw (e, f, g)

module _ (h : HostState) where
  pub received_none : received_all [] h ≡ h
  unfolding after
  received_none = refl

  pub received_more : (q : Request) (l : List Request) → received_all (q ∷ l) h ≡ received_all l (received q h)
  unfolding after
  received_more q l = refl

pub received_one : (q : Request) (h : HostState) → received_all (q ∷ []) h ≡ received q h
received_one q h = received_more h q [] ∙ received_none (received q h)

-- a host below a layer that is in some state
record Below (S : Type 0) : Type 0 where
  own : S
  replies : Replies
  pages : Pages
  sound : Sounds replies pages

module _ {S : Type 0} (y : Layer S) (law : Lawful y) where
  abbrev below_next : Below S → Request → Below S
  below_next b q =
      let l = y.passes b.own b.replies q in
      record { own = y.next b.own; replies = since l b.replies; pages = after b.replies l b.pages; sound = sounds_since b.replies b.pages l b.sound }

  pub layer_sounds : (s : S) (R : Replies) (P : Pages) → Sounds R P → Sounds (layer_replies y s R) P
  layer_sounds s R P so =
      sounds_by {S = Below S} (λ b. layer_replies y b.own b.replies) (λ b. b.pages) below_next
      (λ b q. rw (unrolled_now (λ (o : Over S). y.reply o.own o.below) (passed y) (over b.own b.replies)) (law.sound b.own b.replies b.pages q b.sound))
      (λ b q. unrolled_later (λ (o : Over S). y.reply o.own o.below) (passed y) (over b.own b.replies) q)
      (λ b q. rw (unrolled_now (λ (o : Over S). y.reply o.own o.below) (passed y) (over b.own b.replies)) (law.pages b.own b.replies b.pages q))
      (record { own = s; replies = R; pages = P; sound = so })

  -- the answer and the state after a request, from the reply that is given and from what the host below has received
  pub layer_answers : (s : S) (numbers : List ℕ) (h : HostState) (q : Request) (r : ℕ) → r ≡ y.reply s h.replies q → r ≡ (layered y s numbers h).replies [] q
  layer_answers s numbers h q r e = e ∙ ap (λ (f : Request → ℕ). f q) (sym (unrolled_now (λ (o : Over S). y.reply o.own o.below) (passed y) (over s h.replies)))

  lent_later : (s : S) (R : Replies) (M : Lent) (q : Request)
      → layer_lent y (y.next s) (since (y.passes s R q) R) (since (y.passes s R q) M) ≡ later q (layer_lent y s R M)
  unfolding passed_on
  lent_later s R M q = refl

  pub layer_receives : (s s' : S) (numbers : List ℕ) (h h' : HostState) (q : Request) → s' ≡ y.next s → h' ≡ received_all (y.passes s h.replies q) h
      → layered y s' numbers h' ≡ received q (layered y s numbers h)
  layer_receives s s' numbers h h' q e f =
      ap (λ (t : S). layered y t numbers h') e
      ∙ ap (layered y (y.next s) numbers) f
      ∙ same_state _ _ _ _ _ _ _
      (unrolled_later (λ (o : Over S). y.reply o.own o.below) (passed y) (over s h.replies) q)
      (law.pages s h.replies h.pages q ∙ ap (λ (r : ℕ). taken r q h.pages) (layer_answers s numbers h q _ refl))
      (lent_later s h.replies h.lent q)

-- Lists of requests.
use Rattle.std.specs.Prelude.{List, [], ◌∷◌, ◌≢◌}
use Rattle.host.specs.Pages.{Request}

-- P holds of every request of a list
abbrev pub Every : (Request → Type 0) → List Request → Type 0
Every P [] = Unit {0}
Every P (q ∷ l) = P q × Every P l

-- no request comes twice
abbrev pub Once : List Request → Type 0
Once [] = Unit {0}
Once (q ∷ l) = Every (λ x. x ≢ q) l × Once l

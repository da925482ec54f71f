-- What is told of a host by what it holds now, for every list of requests that could come from now on.
use Rattle.std.specs.Prelude.{ℕ, List, [], ◌∷◌, ◌++◌}
use Rattle.host.specs.Pages.{Request, Pages, taken}

-- the reply to a request that comes after the earlier requests of a list
abbrev pub Replies : Type 0
Replies = List Request → Request → ℕ

-- the bytes that are lent to a host, once the requests of a list have been made
abbrev pub Lent : Type 0
Lent = List Request → List ℕ

-- what is told of the requests that come after request q
abbrev pub later : {A : Type 0} → Request → (List Request → A) → List Request → A
later q R l = R (q ∷ l)

-- what is told of the requests that come after those of a list, the first of them first: a host has received a list if
-- its replies now are the earlier ones since that list
abbrev pub since : {A : Type 0} → List Request → (List Request → A) → List Request → A
since asked R l = R (asked ++ l)

-- the replies to the requests of a list, in order
unfoldable pub heard : Replies → List Request → List ℕ
heard R [] = []
heard R (q ∷ l) = R [] q ∷ heard (later q R) l

-- the pages once the requests of a list have been made
unfoldable pub after : Replies → List Request → Pages → Pages
after R [] P = P
after R (q ∷ l) P = after (later q R) l (taken (R [] q) q P)

-- what is told of something that goes from state to state, one for each request: f of the state after a list of them
unfoldable pub unrolled : {S A : Type 0} → (S → A) → (S → Request → S) → S → List Request → A
unrolled f next s [] = f s
unrolled f next s (q ∷ l) = unrolled f next (next s q) l

-- the requests that something passes on, of those of a list that come to it: for each of them a list, by its state then
unfoldable pub passed_on : {S : Type 0} → (S → Request → List Request) → (S → Request → S) → S → List Request → List Request
passed_on passes next s [] = []
passed_on passes next s (q ∷ l) = passes s q ++ passed_on passes next (next s q) l

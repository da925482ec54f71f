-- The host of a case by the values that the code holds.
use Rattle.std.proofs.Common.{Result, Ok, Err, IfOk, ◌≡◌, ℕ, List, [], ◌∷◌, Bor, drop, ap, ◌∙◌}
use Rattle.fault.specs.declared.Fault.{Fault}
use Rattle.fault.specs.Refusals.{Told, told_by}
use Rattle.host.specs.Layers.{layered}
use Rattle.host.specs.States.{HostState}
use Rattle.host_models.specs.Cap.{capping}
use Rattle.host_models.specs.Inject.{injecting}
use Rattle.host_models.specs.Map.{map_state}
use Rattle.host_models.specs.Retry.{retrying}
use Rattle.hosts.specs.declared.cap.Cap.{Cap}
use Rattle.hosts.specs.declared.inject.Inject.{Inject}
use Rattle.hosts.specs.declared.map.MapHost.{MapHost}
use Rattle.hosts.specs.declared.retry.Retry.{Retry}
use Rattle.script.specs.declared.requests.Walked.{Walked}
use Rattle.std.specs.declared.alloc.AllocError.{AllocError}

-- a cap over a retry over an inject over a map
abbrev pub Stack : Type 0
Stack = Cap (Retry (Inject MapHost))

abbrev pub map_below : Stack → MapHost
map_below s = s.below.below.below

abbrev pub state_of : Stack → HostState
state_of s =
    layered capping s.level (s.level ∷ []) (layered retrying s.below.count (s.below.count ∷ [])
    (layered injecting (drop s.below.below.used s.below.below.words.now) []
    (map_state (map_below s).first (map_below s).count (map_below s).pages.ghost_name (map_below s).pages.now)))

-- the layers as they are made, one over the other
pub made : (s : Stack) (t : Retry (Inject MapHost)) (u : Inject MapHost) (m k : MapHost) (cap retry : ℕ) (words : Bor (List ℕ)) → s ≡ record { level = cap; below = t } → t ≡ record { count = retry; below = u } → u ≡ record { words = words; used = 0; below = m } → m ≡ k → s ≡ record { level = cap; below = record { count = retry; below = record { words = words; used = 0; below = k } } }
made s t u m k cap retry words es et eu em = es ∙ (λ i. record { level = cap; below = (et ∙ (λ j. record { count = retry; below = (eu ∙ (λ h. record { words = words; used = 0; below = em h })) j })) i })

-- what is told of a walk is told of its answer
pub told_as : (r : Result Walked AllocError) (x : Result ℕ Fault) (y : Result ℕ Told) → told_by x ≡ y → IfOk r (λ w. w.answer ≡ x) → IfOk r (λ w. told_by w.answer ≡ y)
told_as (Ok w) x y told same = ap told_by same ∙ told
told_as (Err e) x y told same = tt

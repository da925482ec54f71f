-- The host that a case has.
use Rattle.std.specs.Prelude.{ℕ, ◌/◌, List, [], ◌∷◌, drop}
use Rattle.host.specs.Layers.{layered}
use Rattle.host.specs.States.{HostState}
use Rattle.host_models.specs.Cap.{capping}
use Rattle.host_models.specs.Inject.{injecting}
use Rattle.host_models.specs.Map.{map_state}
use Rattle.host_models.specs.Retry.{retrying}
use Rattle.script.specs.declared.layers.Layers.{Layers}
use Rattle.script.specs.declared.layers.Numbers.{Numbers}

-- A cap over a retry over an inject of some words over a map of some bytes.
abbrev pub host_over : Numbers → List ℕ → List ℕ → HostState
host_over n words bytes =
    layered capping n.cap (n.cap ∷ []) (layered retrying n.retry (n.retry ∷ [])
    (layered injecting words [] (map_state (n.shape.base / 4096) n.shape.count 0 bytes)))

-- The words that were not used yet are left.
abbrev pub host_of : Layers → HostState
host_of l = host_over l.numbers (drop l.used l.inject.items) l.pages.items

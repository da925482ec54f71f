-- Requests by their runs.
use Rattle.std.proofs.Common.{◌≡◌, ℕ, suc, ◌+◌, ◌<◌, add-one, true, List, [], ◌∷◌, ◌++◌, length, get_or, refl, ap, sym, ◌∙◌, arith, append_assoc}
use Rattle.std.proofs.lemmas.Bool.Decides.{nat_tests}
use Rattle.std.proofs.lemmas.List.{flat_map_more, get_or_append_left, map-append}
use Rattle.std.specs.List.{IsChunkByPrefix}
use Rattle.host.specs.declared.Block.{Block}
use Rattle.recorder.specs.Chains.{level_bytes}
use Rattle.recorder.specs.declared.Exchange.{Exchange}
use Rattle.script.specs.declared.requests.RequestRun.{RequestRun}
use Rattle.script.specs.Requests.{asked, block_behind, blocks_from, blocks_in, blocks_of, goes_on}

-- a request that goes on asks for the block behind
behind : (before block : Block) → goes_on before block ≡ true → block ≡ block_behind before
behind before block on =
    let level : block.level ≡ before.level = grind (arith, nat_tests) in
    let address : block.address ≡ before.address + level_bytes before.level = grind (arith, nat_tests) in
    λ i. record { level = level i; address = address i }

-- the blocks of exchanges that go on from each other are one run
chain : (es : List Exchange) (d : Exchange) → 0 < length es → ((k : ℕ) → suc k < length es → goes_on (get_or es k d).block (get_or es (suc k) d).block ≡ true) → blocks_from (length es) (get_or es 0 d).block ≡ blocks_in es
chain [] d some on = absurd (omega arith)
chain (e ∷ []) d some on = refl
chain (e ∷ f ∷ es) d some on =
    let next : f.block ≡ block_behind e.block = behind e.block f.block (on 0 (omega arith)) in
    let rest = chain (f ∷ es) d (omega arith) (λ k low. on (suc k) (omega arith)) in
    ap (λ l. e.block ∷ l) (ap (blocks_from (length (f ∷ es))) (sym next) ∙ rest)

pub asked_more : (whole chunk before after : List Exchange) (d : Exchange) (runs : List RequestRun) → before ≡ chunk ++ after → 0 < length chunk → IsChunkByPrefix (λ x y. goes_on x.block y.block) before (length chunk) → asked runs ++ blocks_in before ≡ blocks_in whole → asked (runs ++ (record { first = (get_or chunk 0 d).block; times = length chunk }) ∷ []) ++ blocks_in after ≡ blocks_in whole
asked_more whole chunk before after d runs cut some prefix front =
    let run : RequestRun = record { first = (get_or chunk 0 d).block; times = length chunk } in
    let in_chunk : (k : ℕ) → k < length chunk → get_or before k d ≡ get_or chunk k d = λ k low. ap (λ l. get_or l k d) cut ∙ get_or_append_left chunk after d k low in
    let on : (k : ℕ) → suc k < length chunk → goes_on (get_or chunk k d).block (get_or chunk (suc k) d).block ≡ true = λ k low.
    rw (← in_chunk k (omega arith), ← in_chunk (suc k) low, ← add-one k) (prefix.0 k d (omega arith)) in
    let blocks = chain chunk d some on in
    ap (λ l. l ++ blocks_in after) (sym (flat_map_more blocks_of [] runs run) ∙ ap (λ l. asked runs ++ l) blocks)
    ∙ append_assoc (asked runs) (blocks_in chunk) (blocks_in after)
    ∙ ap (λ l. asked runs ++ l) (sym (map-append (λ (e : Exchange). e.block) chunk after) ∙ ap blocks_in (sym cut))
    ∙ front

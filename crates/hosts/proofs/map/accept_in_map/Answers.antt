use Rattle.std.proofs.Common.{◌≢◌, ◌-◌, ◌/◌, ◌%◌, ◌≤◌, length, sym, ◌∙◌, arith}
use Rattle.tdcall.specs.declared.TdCallError.TheVariants.{TdxOperandInvalid, TdxOperandAddrRangeError}
use Rattle.host.specs.Pages.{size}
use Rattle.host_models.specs.Map.{Valid}
use Rattle.hosts.proofs.Obstacles.{block_none, reply_level, reply_address, reply_outside, refused, laid, found, granted, level_low, power_some}
use borrow.Rule.Slice.PartMut.{put_mid}
use Rattle.hosts.proofs.Parts.{part_back, part_filled, length_filled}
use Rattle.hosts.proofs.map.accept_in_map.Goals as goal

pub returns-in_default : goal.returns-in_default
returns-in_default c =
    let t = refused c.args.first c.args.count c.args.bytes.now c.args.block.level c.args.block.address TdxOperandInvalid (reply_level _ _ _ _ _ c.in_default.ensures.1) (λ z. omega arith) in
    record { answer = t.0; bytes = t.1 }

pub returns-then-block-bytes-ne0 : goal.returns-then-block-bytes-ne0
returns-then-block-bytes-ne0 c =
    let off : c.args.block.address % size c.args.block.level ≢ 0 = rw (← c.in-Ok.ensures, ← c.bytes.ensures) c.if-block-bytes-ne0.true in
    let t = refused c.args.first c.args.count c.args.bytes.now c.args.block.level c.args.block.address TdxOperandInvalid (reply_address _ _ _ _ _ off) (λ z. omega arith) in
    record { answer = t.0; bytes = t.1 }

pub returns-in_default-block_bytes : goal.returns-in_default-block_bytes
returns-in_default-block_bytes c =
    let valid : Valid c.args.block.level c.args.block.address = record { low = rw c.in-Ok.ensures at (level_low c.in-Ok.level); aligned = rw (← c.in-Ok.ensures, ← c.bytes.ensures) c.if-block-bytes-ne0.false } in
    let none = block_none c.args.first c.args.count (length c.args.bytes.now) (c.args.block.address / 4096) c.pages.result (sym c.block_bytes.ensures ∙ c.in_default-block_bytes.is) in
    let t =
    refused c.args.first c.args.count c.args.bytes.now c.args.block.level c.args.block.address TdxOperandAddrRangeError
    (reply_outside _ _ _ _ _ valid (power_some c.args.block.level) (rw (c.pages.ensures, c.in-Ok.ensures) at none)) (λ z. omega arith) in
    record { answer = t.0; bytes = t.1 }

pub returns-in-Some-highest_obstacle : goal.returns-in-Some-highest_obstacle
returns-in-Some-highest_obstacle c =
    let b = c.args.block in
    let lies =
    laid c.args.first c.args.count c.args.bytes.now b.level b.address c.in-Ok.level c.bytes.result c.pages.result c.in-Some.places c.highest_obstacle.result
    c.in-Ok.ensures c.bytes.ensures c.if-block-bytes-ne0.false c.pages.ensures (sym c.block_bytes.ensures ∙ c.in-Some.is) c.highest_obstacle.ensures in
    let t = found _ _ _ _ _ _ _ _ lies c.in-Some-highest_obstacle.obstacle c.in-Some-highest_obstacle.is in
    record { answer = rw c.into.ensures t.0; bytes = part_back c.args.bytes.now c.in-Some.places.start c.in-Some.places.end ∙ t.1 }

pub returns : goal.returns
returns c =
    let b = c.args.block in
    let lies =
    laid c.args.first c.args.count c.args.bytes.now b.level b.address c.in-Ok.level c.bytes.result c.pages.result c.in-Some.places c.highest_obstacle.result
    c.in-Ok.ensures c.bytes.ensures c.if-block-bytes-ne0.false c.pages.ensures (sym c.block_bytes.ensures ∙ c.in-Some.is) c.highest_obstacle.ensures in
    let L = c.args.bytes.now in
    let i = c.in-Some.places.start in
    let j = c.in-Some.places.end in
    let block = lies.block in
    let lo : i ≤ j = omega (arith, block.from, block.end) in
    let hi : j ≤ length L = omega (arith, block.end, block.under) in
    let filled = c.accept_bytes.ensures in
    let t = granted _ _ _ _ _ _ _ _ lies c.in_default-highest_obstacle.is (put_mid i (j - i) L c.accept_bytes.new.bytes) (rw filled (length_filled L i j lo hi)) (λ k. rw filled (part_filled L i j k lo hi)) in
    record { answer = t.0; bytes = t.1 }

use Rattle.std.proofs.Common.{◌≡◌, ◌^◌, replicate, set, ap, ◌∙◌}
use Rattle.qh_blocks.proofs.GroundLemmas.{ground_numbers, ground_bounded}
use Rattle.qh_blocks.proofs.block.ground_blocks.Goals as goal

pub returns-clause-numbers : goal.returns-clause-numbers
returns-clause-numbers g c =
    let s = c.stride_of.ensures in
    let e : c.in_ok-blocks.blocks.items ≡ replicate c.stride_of.result c.nothing_block.result = c.in_ok-blocks.ensures.items_if_clones_equal (λ y h. h) in
    let f = ap (λ xs. set xs 0 c.ground_block.result) (e ∙ ap (λ n. replicate n c.nothing_block.result) s) in
    ground_numbers g.V.Vector.lanes g.V.Vector.PLACES c.args.qubits _ c.nothing_block.result c.ground_block.result c.nothing_block.ensures.lanes c.ground_block.ensures.lanes f

pub returns-clause-bounded : goal.returns-clause-bounded
returns-clause-bounded g c =
    let s = c.stride_of.ensures in
    let e : c.in_ok-blocks.blocks.items ≡ replicate c.stride_of.result c.nothing_block.result = c.in_ok-blocks.ensures.items_if_clones_equal (λ y h. h) in
    let f = ap (λ xs. set xs 0 c.ground_block.result) (e ∙ ap (λ n. replicate n c.nothing_block.result) s) in
    ground_bounded g.V.Vector.lanes (2 ^ g.V.Vector.PLACES) (2 ^ c.args.qubits) _ c.nothing_block.result c.ground_block.result (c.nothing_block.ensures.block 1) c.ground_block.ensures.block f

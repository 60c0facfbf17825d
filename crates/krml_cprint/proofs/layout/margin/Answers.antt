use Rattle.std.proofs.Common.{◌≡◌, ◌++◌, ◌*◌, ◌+◌, ℕ, List, replicate, [], ◌∷◌, ap, ◌∙◌, append_assoc, arith}
use Rattle.std.proofs.lemmas.List.{replicate-append-replicate}
use Rattle.krml_cprint.proofs.layout.margin.Goals as goal

one_level : (n : ℕ) (out : List ℕ) → (out ++ replicate (2 * n) 32) ++ 32 ∷ 32 ∷ [] ≡ out ++ replicate (2 * (n + 1)) 32
one_level n out =
    let two : List ℕ = replicate 2 32 in
    let more : replicate (2 * n) 32 ++ two ≡ replicate (2 * (n + 1)) 32 = replicate-append-replicate (2 * n) 2 32 ∙ ap (λ k. replicate k 32) (omega arith) in
    append_assoc out (replicate (2 * n) 32) two ∙ ap (λ xs. out ++ xs) more

pub loop-preserved : goal.loop-preserved
loop-preserved c = c.in_ok-extend_from_slice.ensures.items ∙ ap (λ xs. xs ++ 32 ∷ 32 ∷ []) c.loop.invariant ∙ one_level c.loop.counter c.args.out.now.items

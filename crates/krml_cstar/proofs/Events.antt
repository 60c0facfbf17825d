-- The events of C that stand for those of a run, in their order.
use Rattle.std.proofs.Common.{◌≡◌, List, [], ◌∷◌, ◌++◌, reverse, refl, sym, ap, ◌∙◌, append-nil}
use Rattle.std.proofs.lemmas.List.{reverse-append, reverse-reverse}
use Rattle.std.proofs.lemmas.List.Concat.{flat_map-append}
use Rattle.krml_syntax.specs.declared.tree.Def.{Def}
use Rattle.krml_ast.specs.declared.event.SourceEvent.{SourceEvent}
use Rattle.krml_cstar.specs.Image.{event_image, image_c}
use Rattle.krml_cstar.proofs.Images.{events_image}

-- the newest first, and the oldest first
pub events_in_order : (defs : List Def) (es : List SourceEvent) → reverse (events_image defs es) ≡ image_c defs (reverse es)
events_in_order defs [] = refl
events_in_order defs (e ∷ es) =
    let first : reverse (events_image defs (e ∷ es)) ≡ reverse (events_image defs es) ++ reverse (reverse (event_image defs e)) = reverse-append (reverse (event_image defs e)) (events_image defs es) in
    let last : image_c defs (reverse es ++ e ∷ []) ≡ image_c defs (reverse es) ++ image_c defs (e ∷ []) = flat_map-append (event_image defs) (reverse es) (e ∷ []) in
    let more : reverse (e ∷ es) ≡ reverse es ++ e ∷ [] = reverse-append (e ∷ []) es in
    first ∙ ap (λ z. reverse (events_image defs es) ++ z) (reverse-reverse (event_image defs e) ∙ sym (append-nil (event_image defs e)))
    ∙ ap (λ z. z ++ image_c defs (e ∷ [])) (events_in_order defs es) ∙ sym last ∙ ap (image_c defs) (sym more)

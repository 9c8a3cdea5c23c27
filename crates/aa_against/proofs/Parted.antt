-- Requests that are parted one after another.
use Rattle.std.proofs.Common.{◌≡◌, List, [], ◌∷◌, ◌++◌, flat_map, ap, sym, ◌∙◌}
use Rattle.std.proofs.lemmas.List.{append-nil}
use Rattle.std.proofs.lemmas.Grind.{flat_map-append}

-- one request more is parted
pub parted_more : {E A F : Type 0} (f : E → List A) (g : E → F → List A) (files : E → F) (es more : List E) (e : E) (found : F) (before after : List A)
    → ((x : E) → f x ≡ g x (files x)) → more ≡ es ++ e ∷ [] → found ≡ files e → before ≡ flat_map f es → after ≡ before ++ g e found → after ≡ flat_map f more
parted_more f g files es more e found before after same is so far put =
    put ∙ (ap (λ (l : List _). l ++ g e found) far
    ∙ (ap (λ (l : List _). flat_map f es ++ l) (ap (g e) so ∙ (sym (same e) ∙ sym (append-nil (f e)))) ∙ (sym (flat_map-append f es (e ∷ [])) ∙ ap (flat_map f) (sym is))))

-- The entries that a list's items bring, one item more.
use Rattle.std.proofs.Common.{◌≡◌, ℕ, ◌+◌, ◌<◌, List, [], ◌∷◌, ◌++◌, length, get_or, take, Some, None, Option, sym, ap, ◌∙◌, append-nil}
use Rattle.std.specs.List.{cons_option, filter_map}
use Rattle.std.proofs.lemmas.List.{take_more}
use Rattle.std.proofs.lemmas.List.Elements.{filter_map-append}

module _ {X Y : Type 0} (h : X → Option Y) (xs : List X) (i : ℕ) (d : X) (within : i < length xs) where
  listed : (o : Option Y) → o ≡ h (get_or xs i d) → filter_map h (take (i + 1) xs) ≡ filter_map h (take i xs) ++ cons_option o []
  listed o e = ap (filter_map h) (take_more xs i d within) ∙ filter_map-append h (take i xs) (get_or xs i d ∷ []) ∙ ap (λ p. filter_map h (take i xs) ++ cons_option p []) (sym e)

  module _ (es es' : List Y) (so_far : es ≡ filter_map h (take i xs)) where
    pub listed_some : (y : Y) → Some y ≡ h (get_or xs i d) → es' ≡ es ++ y ∷ [] → es' ≡ filter_map h (take (i + 1) xs)
    listed_some y e is = is ∙ ap (λ ys. ys ++ y ∷ []) so_far ∙ sym (listed (Some y) e)

    pub listed_none : None ≡ h (get_or xs i d) → es' ≡ es → es' ≡ filter_map h (take (i + 1) xs)
    listed_none e is = is ∙ so_far ∙ sym (listed None e ∙ append-nil (filter_map h (take i xs)))

-- What one request more adds to a run.
use Rattle.std.proofs.Common.{◌≡◌, ℕ, zero, suc, slice_get, Some, ◌+◌, ◌<◌, List, [], ◌∷◌, ◌++◌, length, get_or, take, refl, sym, ap, ◌∙◌}
use Rattle.std.proofs.lemmas.List.{take_more}
use Rattle.aa_machine.specs.Run.{state_after, replies}

module _ {S Q A : Type 0} (next : S → Q → S) (reply : S → Q → A) where
  pub state_after-snoc : (s : S) (qs : List Q) (q : Q) → state_after next reply s (qs ++ q ∷ []) ≡ next (state_after next reply s qs) q
  state_after-snoc s [] q = refl
  state_after-snoc s (x ∷ qs) q = state_after-snoc (next s x) qs q

  pub replies-snoc : (s : S) (qs : List Q) (q : Q) → replies next reply s (qs ++ q ∷ []) ≡ replies next reply s qs ++ reply (state_after next reply s qs) q ∷ []
  replies-snoc s [] q = refl
  replies-snoc s (x ∷ qs) q = ap (λ out. reply s x ∷ out) (replies-snoc (next s x) qs q)

  -- the next request of the list is answered
  pub replies-more : (s : S) (qs : List Q) (out : List A) (st : S) (q : Q) → length out < length qs → q ≡ get_or qs (length out) q
      → out ≡ replies next reply s (take (length out) qs) → st ≡ state_after next reply s (take (length out) qs)
      → (out ++ reply st q ∷ [] ≡ replies next reply s (take (length out + 1) qs)) × (next st q ≡ state_after next reply s (take (length out + 1) qs))
  replies-more s qs out st q lt is ans at =
      let more : take (length out + 1) qs ≡ take (length out) qs ++ q ∷ [] = take_more qs (length out) q lt ∙ ap (λ x. take (length out) qs ++ x ∷ []) (sym is) in (
        rw (more, replies-snoc s (take (length out) qs) q, ← at, ← ans),
        rw (more, state_after-snoc s (take (length out) qs) q, ← at),
      )

  -- the answers to the first n requests are the first answers to all
  pub replies-take : (s : S) (n : ℕ) (qs : List Q) (i : ℕ) (a : A) → slice_get (replies next reply s (take n qs)) i ≡ Some a → slice_get (replies next reply s qs) i ≡ Some a
  replies-take s zero qs i a e = cc
  replies-take s (suc n) [] i a e = e
  replies-take s (suc n) (q ∷ qs) zero a e = e
  replies-take s (suc n) (q ∷ qs) (suc i) a e = replies-take (next s q) n qs i a e

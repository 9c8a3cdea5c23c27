-- One lane more is opened.
use Rattle.std.proofs.Common.{◌≡◌, ℕ, zero, suc, ◌+◌, ◌<◌, ◌⊎◌, List, [], ◌∷◌, ◌++◌, length, map, get_or, take, inl, inr, ⊎_elim, sym, refl, ap, ◌∙◌, arith}
use Rattle.std.proofs.lemmas.List.{map-append, take_more}
use Rattle.std.proofs.lemmas.List.Elements.{All-push}
use Rattle.aa_lane.specs.Ends.{LaneSeen, OwnerSeen, ServerSeen, ShutterSeen, known, new_owner, new_server, new_shutter}
use Rattle.aa_pool.specs.Opened.{AreOpened, AreEndsOf}

module _ {X : Type 0} where
  at_end : (xs : List X) (x d : X) (i : ℕ) → i < length (xs ++ x ∷ []) → ((i < length xs) × (get_or (xs ++ x ∷ []) i d ≡ get_or xs i d)) ⊎ ((i ≡ length xs) × (get_or (xs ++ x ∷ []) i d ≡ x))
  at_end [] x d zero h = inr (refl, refl)
  at_end [] x d (suc i) h = absurd (omega arith)
  at_end (y ∷ ys) x d zero h = inl (omega arith, refl)
  at_end (y ∷ ys) x d (suc i) h = ⊎_elim (λ t. let n : i < length ys = t.0 in inl (omega arith, t.1)) (λ t. inr (ap suc t.0, t.1)) (at_end ys x d i (omega arith))

-- of what is made of each element, what the element itself gives
through : {X A B : Type 0} (f : A → B) (g : X → A) (k : X → B) → ((x : X) → f (g x) ≡ k x) → (xs : List X) → map f (map g xs) ≡ map k xs
through f g k e [] = refl
through f g k e (x ∷ xs) = λ i. e x i ∷ through f g k e xs i

module _ {M S Q A : Type 0} where
  pub opened_more : (m : M) (ss : List S) (c at : ℕ) (ls : List (LaneSeen M S)) (os : List (OwnerSeen M S Q A)) (vs : List (ServerSeen M S Q A)) (us : List (ShutterSeen M S Q A)) (l : LaneSeen M S) (s : S)
      → AreOpened m (take at ss) c ls os vs us → at < length ss → length ls ≡ at → s ≡ get_or ss at s → l.machine ≡ m → l.start ≡ s → l.table.slots ≡ c → l.tag ≡ at
      → AreOpened m (take (at + 1) ss) c (ls ++ l ∷ []) (os ++ new_owner l ∷ []) (vs ++ new_server l ∷ []) (us ++ new_shutter l ∷ [])
  opened_more m ss c at ls os vs us l s h within len here machine start capacity tag = record {
    terms = All-push (λ (k : LaneSeen M S). (k.machine ≡ m) × (k.table.slots ≡ c)) ls l h.terms (machine, capacity);
    starts_are = map-append (λ (k : LaneSeen M S). k.start) ls (l ∷ []) ∙ (λ i. h.starts_are i ++ start i ∷ []) ∙ ap (λ x. take at ss ++ x ∷ []) here ∙ sym (take_more ss at s within);
    tags = λ i d e. ⊎_elim (λ t. ap (λ (k : LaneSeen M S). k.tag) t.1 ∙ h.tags i d t.0) (λ t. ap (λ (k : LaneSeen M S). k.tag) t.1 ∙ tag ∙ sym len ∙ sym t.0) (at_end ls l d i e);
    owners_are = (λ i. h.owners_are i ++ new_owner l ∷ []) ∙ sym (map-append new_owner ls (l ∷ []));
    servers_are = (λ i. h.servers_are i ++ new_server l ∷ []) ∙ sym (map-append new_server ls (l ∷ []));
    shutters_are = (λ i. h.shutters_are i ++ new_shutter l ∷ []) ∙ sym (map-append new_shutter ls (l ∷ []));
  }

  pub ends_of : (m : M) (ss : List S) (c : ℕ) (ls : List (LaneSeen M S)) (os : List (OwnerSeen M S Q A)) (vs : List (ServerSeen M S Q A)) (us : List (ShutterSeen M S Q A)) → AreOpened m ss c ls os vs us → AreEndsOf ls os vs us
  ends_of m ss c ls os vs us h = record {
    owners_of = ap (map (λ o. o.lane)) h.owners_are ∙ through (λ (o : OwnerSeen M S Q A). o.lane) new_owner known (λ l. refl) ls;
    servers_of = ap (map (λ s. s.lane)) h.servers_are ∙ through (λ (s : ServerSeen M S Q A). s.lane) new_server known (λ l. refl) ls;
    shutters_of = ap (map (λ s. s.lane)) h.shutters_are ∙ through (λ (s : ShutterSeen M S Q A). s.lane) new_shutter known (λ l. refl) ls;
  }

-- The pattern matches the unclean paths.
use Rattle.std.proofs.Common.{◌≡◌, ◌≢◌, ℕ, ◌⊎◌, List, [], ◌∷◌, ◌++◌, map, All, Vec, Global, refl, sym, ap, ◌∙◌, subst, inl, inr, ⊎_elim, arith}
use Rattle.std.specs.Prelude.{◌↔◌, ◌==◌, ◌&&◌, not, nat_le, length}
use Rattle.std.specs.List.{list_any}
use Rattle.std.proofs.lemmas.Bool.{and_parts, not-true}
use Rattle.std.proofs.lemmas.List.{append-nil}
use Rattle.std.proofs.lemmas.List.Elements.{All-nil, All-head, All-tail, All-cons}
use Rattle.aa_pattern.specs.declared.item.Item.{Item, Byte, Deep, Choice}
use Rattle.aa_pattern.specs.declared.pattern.Pattern.{Pattern}
use Rattle.aa_pattern.specs.Globs.{Allows, Matches, SomeMatches, IsNonzeroByte}
use Rattle.aa_pattern.proofs.Rows.{Allows-Choice}
use Rattle.aa_pattern.proofs.Decided.{decided}
use Rattle.aa_model.specs.Requests.{begins_with}
use Rattle.aa_regions.specs.Wanted.{IsFrom}
use Rattle.aa_regions.specs.Regions.{IsAsked}
use Rattle.aa_regions.proofs.Paths.{no_zero}
use Rattle.aa_unclean_paths.specs.Components.{IsEndOrSlash, NamesNothing, IsUnclean}
use Rattle.aa_unclean_paths.specs.Told.{TellsUnclean}

abbrev dot : List ℕ
dot = 46 ∷ []

abbrev dots : List ℕ
dots = 46 ∷ 46 ∷ []

-- the items match the text, and one of the sequences does
abbrev matches : List ℕ → List Item → Type 0
matches s items = Matches items s

abbrev some : List ℕ → List (Vec Item Global) → Type 0
some s branches = SomeMatches branches s

literal : (n s : List ℕ) → Matches (map Byte n) s → s ≡ n
literal [] s m = m
literal (c ∷ n) s m = m.2 ∙ ap (λ (l : List ℕ). l ++ m.1) m.3.0 ∙ ap (λ (l : List ℕ). c ∷ l) (literal n m.1 m.4)

itself : (n : List ℕ) → All IsNonzeroByte n → Matches (map Byte n) n
itself [] all = refl
itself (c ∷ n) all = (c ∷ [], n, refl, (refl, All-head IsNonzeroByte c n all), itself n (All-tail IsNonzeroByte c n all))

front : (xs ys : List ℕ) → All IsNonzeroByte (xs ++ ys) → All IsNonzeroByte xs × All IsNonzeroByte ys
front [] ys all = (All-nil IsNonzeroByte, all)
front (x ∷ xs) ys all =
    let rest = front xs ys (All-tail IsNonzeroByte x (xs ++ ys) all) in
    (All-cons IsNonzeroByte x xs (All-head IsNonzeroByte x (xs ++ ys) all) rest.0, rest.1)

-- a path that can be asked for holds no zero byte
nonzero : (s : List ℕ) → IsAsked s → All IsNonzeroByte s
nonzero s asked =
    let p = and_parts (begins_with 47 s && not (list_any (λ x. x == 0) s)) (nat_le (length s) 4095) asked.1 in
    let q = and_parts (begins_with 47 s) (not (list_any (λ x. x == 0) s)) p.0 in
    each s (no_zero s (not-true (list_any (λ x. x == 0) s) q.1) asked.0)
  where
    each : (s : List ℕ) → All (IsFrom 1) s → All IsNonzeroByte s
    each [] all = All-nil IsNonzeroByte
    each (b ∷ s) all =
        let h = All-head (IsFrom 1) b s all in
        All-cons IsNonzeroByte b s (omega (arith, h.0), h.1) (each s (All-tail (IsFrom 1) b s all))

slash : IsNonzeroByte 47
slash = (omega arith, omega arith)

of_dot : IsNonzeroByte 46
of_dot = (omega arith, omega arith)

dot_matches : Matches (map Byte dot) dot
dot_matches = itself dot (All-cons IsNonzeroByte 46 [] of_dot (All-nil IsNonzeroByte))

dots_match : Matches (map Byte dots) dots
dots_match = itself dots (All-cons IsNonzeroByte 46 dot of_dot (All-cons IsNonzeroByte 46 [] of_dot (All-nil IsNonzeroByte)))

not_slash : (b : ℕ) → b ≡ 46 → b ≢ 47
not_slash b is e = omega (arith, is, e)

one_name : All (λ b. b ≢ 47) dot
one_name = All-cons (λ b. b ≢ 47) 46 [] (not_slash 46 refl) (All-nil (λ b. b ≢ 47))

two_name : All (λ b. b ≢ 47) dots
two_name = All-cons (λ b. b ≢ 47) 46 dot (not_slash 46 refl) one_name

-- the names that stand before a slash
module _ (v : Vec (Vec Item Global) Global) (e d t : Vec Item Global) (is : v.items ≡ e ∷ d ∷ t ∷ [])
    (e_is : e.items ≡ []) (d_is : d.items ≡ map Byte dot) (t_is : t.items ≡ map Byte dots) where
  named : (s : List ℕ) → Allows (Choice v) s → (s ≡ []) ⊎ (s ≡ dot) ⊎ (s ≡ dots)
  named s h =
      ⊎_elim (λ m. inl (literal [] s (subst (matches s) e_is m)))
      (λ h. ⊎_elim (λ m. inr (inl (literal dot s (subst (matches s) d_is m))))
      (λ h. ⊎_elim (λ m. inr (inr (literal dots s (subst (matches s) t_is m)))) (λ h. absurd h) h) h)
      (subst (some s) is ((Allows-Choice v s).0 h))

  of_name : (s : List ℕ) → (s ≡ []) ⊎ (s ≡ dot) ⊎ (s ≡ dots) → Allows (Choice v) s
  of_name s n = (Allows-Choice v s).1 (subst (some s) (sym is) (
      ⊎_elim (λ m. inl (subst (matches s) (sym e_is) m))
      (λ n. ⊎_elim
      (λ m. inr (inl (subst (matches s) (sym d_is) (subst (Matches (map Byte dot)) (sym m) dot_matches))))
      (λ m. inr (inr (inl (subst (matches s) (sym t_is) (subst (Matches (map Byte dots)) (sym m) dots_match))))) n) n))

-- what stands behind a slash: a component that names nothing, and the rest
abbrev IsNothing : List ℕ → Type 0
IsNothing s =
    (component : List ℕ) × (rest : List ℕ) × (s ≡ component ++ rest) × All (λ b. b ≢ 47) component × IsEndOrSlash rest × NamesNothing component rest

-- what may stand behind the slash
module _ (i : Item) (named : (s : List ℕ) → Allows i s ↔ ((s ≡ []) ⊎ (s ≡ dot) ⊎ (s ≡ dots)))
    (w : Vec (Vec Item Global) Global) (n d t : Vec Item Global) (is : w.items ≡ n ∷ d ∷ t ∷ [])
    (n_is : n.items ≡ i ∷ Byte 47 ∷ Deep ∷ []) (d_is : d.items ≡ map Byte dot) (t_is : t.items ≡ map Byte dots) where
  within : (s : List ℕ) → Matches (i ∷ Byte 47 ∷ Deep ∷ []) s → IsNothing s
  within s m =
      let behind = m.4 in
      let rest = behind.4 in
      let tail : behind.1 ≡ rest.0 = rest.2 ∙ ap (λ (l : List ℕ). rest.0 ++ l) rest.4 ∙ append-nil rest.0 in
      let slashed : m.1 ≡ 47 ∷ rest.0 = behind.2 ∙ ap (λ (l : List ℕ). l ++ behind.1) behind.3.0 ∙ ap (λ (l : List ℕ). 47 ∷ l) tail in
      let whole : s ≡ m.0 ++ 47 ∷ rest.0 = m.2 ∙ ap (λ (l : List ℕ). m.0 ++ l) slashed in
      ⊎_elim
      (λ e. (m.0, 47 ∷ rest.0, whole, subst (All (λ b. b ≢ 47)) (sym e) (All-nil (λ b. b ≢ 47)), refl, inr (inr (e, λ f. cc f))))
      (λ o. ⊎_elim
      (λ e. (m.0, 47 ∷ rest.0, whole, subst (All (λ b. b ≢ 47)) (sym e) one_name, refl, inl e))
      (λ e. (m.0, 47 ∷ rest.0, whole, subst (All (λ b. b ≢ 47)) (sym e) two_name, refl, inr (inl e))) o)
      ((named m.0).0 m.3)

  nothing : (s : List ℕ) → Allows (Choice w) s → IsNothing s
  nothing s h =
      ⊎_elim (λ m. within s (subst (matches s) n_is m))
      (λ h. ⊎_elim
      (λ m. let e = literal dot s (subst (matches s) d_is m) in (dot, [], e, one_name, tt, inl refl))
      (λ h. ⊎_elim
      (λ m. let e = literal dots s (subst (matches s) t_is m) in (dots, [], e, two_name, tt, inr (inl refl)))
      (λ h. absurd h) h) h)
      (subst (some s) is ((Allows-Choice w s).0 h))

  -- the rest ends the path, or begins with a slash
  allowed : (component rest : List ℕ) → IsEndOrSlash rest → All IsNonzeroByte rest → NamesNothing component rest → Allows (Choice w) (component ++ rest)
  allowed component [] ends all none =
      (Allows-Choice w (component ++ [])).1 (subst (some (component ++ [])) (sym is) (
      subst (SomeMatches (n ∷ d ∷ t ∷ [])) (sym (append-nil component)) (
      ⊎_elim (λ e. inr (inl (subst (matches component) (sym d_is) (subst (Matches (map Byte dot)) (sym e) dot_matches))))
      (λ o. ⊎_elim
      (λ e. inr (inr (inl (subst (matches component) (sym t_is) (subst (Matches (map Byte dots)) (sym e) dots_match)))))
      (λ e. absurd (e.1 refl)) o) none)))
  allowed component (b ∷ rest) ends all none =
      let name : (component ≡ []) ⊎ (component ≡ dot) ⊎ (component ≡ dots) =
      ⊎_elim (λ e. inr (inl e)) (λ o. ⊎_elim (λ e. inr (inr e)) (λ e. inl e.0) o) none in
      let behind : Matches (Byte 47 ∷ Deep ∷ []) (b ∷ rest) =
      (47 ∷ [], rest, ap (λ (x : ℕ). x ∷ rest) ends, (refl, slash), (rest, [], sym (append-nil rest), All-tail IsNonzeroByte b rest all, refl)) in
      (Allows-Choice w (component ++ b ∷ rest)).1 (subst (some (component ++ b ∷ rest)) (sym is) (inl (
      subst (matches (component ++ b ∷ rest)) (sym n_is) (component, b ∷ rest, refl, (named component).1 name, behind))))

  pub tells : (p : Pattern) → p.items.items ≡ Deep ∷ Byte 47 ∷ Choice w ∷ [] → TellsUnclean p
  tells p p_is s asked = (
    λ e. to (subst (matches s) p_is ((decided p.items.items s).0 e)),
    λ u. (decided p.items.items s).1 (subst (matches s) (sym p_is) (from u)),
  )
    where
      to : Matches (Deep ∷ Byte 47 ∷ Choice w ∷ []) s → IsUnclean s
      to m =
          let slashed = m.4 in
          let last = slashed.4 in
          let tail : slashed.1 ≡ last.0 = last.2 ∙ ap (λ (l : List ℕ). last.0 ++ l) last.4 ∙ append-nil last.0 in
          let behind : m.1 ≡ 47 ∷ last.0 =
          slashed.2 ∙ ap (λ (l : List ℕ). l ++ slashed.1) slashed.3.0 ∙ ap (λ (l : List ℕ). 47 ∷ l) tail in
          let x = nothing last.0 last.3 in
          record {
            component = x.0;
            rest = x.1;
            has = record {
              before = m.0;
              whole = m.2 ∙ ap (λ (l : List ℕ). m.0 ++ l) (behind ∙ ap (λ (l : List ℕ). 47 ∷ l) x.2);
              name = x.3;
              ends = x.4;
            };
            none = x.5;
          }

      from : IsUnclean s → Matches (Deep ∷ Byte 47 ∷ Choice w ∷ []) s
      from u =
          let parts = front u.has.before (47 ∷ (u.component ++ u.rest)) (subst (All IsNonzeroByte) u.has.whole (nonzero s asked)) in
          let behind = All-tail IsNonzeroByte 47 (u.component ++ u.rest) parts.1 in
          let rest = (front u.component u.rest behind).1 in
          let last = u.component ++ u.rest in (
            u.has.before,
            47 ∷ last,
            u.has.whole,
            parts.0,
            (47 ∷ [], last, refl, (refl, slash), (last, [], sym (append-nil last), allowed u.component u.rest u.has.ends rest u.none, refl)),
          )

-- the pattern by its parts
pub tells_by : (v w : Vec (Vec Item Global) Global) (e d t n d' t' : Vec Item Global)
    → v.items ≡ e ∷ d ∷ t ∷ [] → e.items ≡ [] → d.items ≡ map Byte dot → t.items ≡ map Byte dots
    → w.items ≡ n ∷ d' ∷ t' ∷ [] → n.items ≡ Choice v ∷ Byte 47 ∷ Deep ∷ [] → d'.items ≡ map Byte dot → t'.items ≡ map Byte dots
    → (p : Pattern) → p.items.items ≡ Deep ∷ Byte 47 ∷ Choice w ∷ [] → TellsUnclean p
tells_by v w e d t n d' t' v_is e_is d_is t_is w_is n_is d'_is t'_is p p_is =
    tells (Choice v) (λ s. (named v e d t v_is e_is d_is t_is s, of_name v e d t v_is e_is d_is t_is s)) w n d' t' w_is n_is d'_is t'_is p p_is

-- three branches, by their items
pub three : (v : Vec (Vec Item Global) Global) (a b c : Vec Item Global) (x y z : List Item) → v.items ≡ a ∷ b ∷ c ∷ [] → a.items ≡ x → b.items ≡ y
    → c.items ≡ z → map (λ (w : Vec Item Global). w.items) v.items ≡ x ∷ y ∷ z ∷ []
three v a b c x y z branches one two last =
    let each : a.items ∷ b.items ∷ c.items ∷ [] ≡ x ∷ y ∷ z ∷ [] = cc (one, two, last) in
    ap (map (λ (w : Vec Item Global). w.items)) branches ∙ each

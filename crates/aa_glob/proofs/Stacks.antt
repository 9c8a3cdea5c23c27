-- A text that is built, one part on.
use Rattle.std.proofs.Common.{◌≡◌, ℕ, zero, suc, max, ◌-◌, ◌/◌, ◌%◌, ◌<◌, ◌≤◌, Bool, false, List, [], ◌∷◌, ◌++◌, get_or}
use Rattle.std.proofs.Common.{length, reverse, Contains, IsTrue, Some, Bor, refl, sym, ap, ◌∙◌, subst, inl, inr, arith, append_assoc, length-append}
use Rattle.std.proofs.lemmas.List.{append-nil}
use Rattle.aa_base.specs.declared.fault.PolicyKind.{PolicyKind}
use Rattle.aa_glob.specs.declared.summary.VariableSummary.{VariableSummary}
use Rattle.aa_glob.specs.declared.building.Rest.{Rest}
use Rattle.aa_glob.specs.Variables.{Variable, values_of}
use Rattle.aa_glob.specs.Pieces.{Plain, Use, pieces, pieces_from}
use Rattle.aa_glob.specs.Expansions.{Outcome, Texts, Stops, in_turn, outcome, counted, is_reserved}
use Rattle.aa_glob.specs.Known.{Table, AreKnown, IsRight}
use Rattle.aa_glob.specs.Built.{HasTexts, IsBuilt, Stands, Waits, IsBuilding, pieces_of, steps, steps_of_texts, steps_of_variable, steps_left}
use Rattle.aa_glob.proofs.Tables.{pushed_up, pushed_long}
use Rattle.aa_glob.proofs.Summaries.{variable_is}
use Rattle.aa_glob.proofs.Ways.{no_pieces}
use Rattle.aa_glob.proofs.Builds.{Splits, stands_plain, stands_use}

no_text : (level : ℕ) (vars : List Variable) (top : Rest) (t : List ℕ) → pieces_of top ≡ [] → Stands level vars top t → t ≡ []
no_text level vars top t none s = grind (arith, no_pieces)

-- a variable goes one deeper than its values
goes_deeper : (level : ℕ) (vars : List Variable) (name : List ℕ) (most : ℕ) (ts : List (List ℕ)) → outcome level vars name ≡ Texts most ts → (l : ℕ) × (level ≡ suc l)
unfolding outcome
goes_deeper zero vars name most ts e = absurd (cc e)
goes_deeper (suc l) vars name most ts e = (l, refl)

-- a variable's texts are those of its values
of_counted : (x : Outcome) (most : ℕ) (ts : List (List ℕ)) → counted x ≡ Texts most ts → (m : ℕ) × (x ≡ Texts m ts) × (most ≡ max m (length ts))
of_counted x most ts e = grind arith

-- each kind of step leaves less
steps_among : (of : List ℕ → ℕ) (texts : List (List ℕ)) (text : List ℕ) (k : ℕ) → k < length texts → get_or texts k text ≡ text → steps of (pieces text) ≤ steps_of_texts of texts
steps_among of [] text k h e = absurd (omega arith)
steps_among of (t ∷ ts) text zero h e = omega (arith, ap (λ x. steps of (pieces x)) e)
steps_among of (t ∷ ts) text (suc k) h e = omega (arith, steps_among of ts text k (omega arith) e)

pub steps_back : (depth : ℕ) (vars : List Variable) (stack below_stack : List Rest) (below top : Rest) → stack ≡ below_stack ++ below ∷ [] → length stack ≤ depth →
    steps_left (depth - length below_stack) vars below_stack below < steps_left (depth - length stack) vars stack top
steps_back depth vars stack below_stack below top popped fits = grind (arith, pushed_up, pushed_long)

-- what a variable's values are, a level below it
pub record Opens (level : ℕ) (vars : List Variable) (values ts : List (List ℕ)) (q : ℕ) : Type 0 where
  pub below : ℕ
  pub is : level ≡ suc below
  pub has : HasTexts below vars values ts q

pub build_start : {depth : ℕ} {vars : List Variable} {text : List ℕ} {stack : List Rest} {top : Rest} {t : List ℕ} (done : Table) → text ≡ [] → stack ≡ [] → AreKnown done (pieces_of top) → Stands depth vars top t →
    IsBuilding depth vars done text stack top t
build_start {depth} {vars} {text} {stack} {top} {t} done e g known s = grind (arith, append-nil)

module _ {depth : ℕ} {vars : List Variable} {done : Table} {text : List ℕ} {stack : List Rest} {top : Rest} {t : List ℕ} (w : IsBuilding depth vars done text stack top t) where
  pub build_end : pieces_of top ≡ [] → stack ≡ [] → IsBuilt text t
  build_end none last = inl (grind (arith, no_text w.level vars top w.now none w.stands, append-nil))

  pub build_long : 16384 < length text → IsBuilt text t
  build_long long = inr (long, omega (arith, long, ap length w.is, length-append text (w.now ++ w.later)))

  pub build_back : {below_stack : List Rest} {below : Rest} → pieces_of top ≡ [] → stack ≡ below_stack ++ below ∷ [] → IsBuilding depth vars done text below_stack below t
  build_back {below_stack} {below} none popped =
      let r = subst (λ st. Waits done w.level vars st w.later) (pushed_up _ _ _ popped) w.waits in
      record {
        level = suc w.level;
        deep = omega (arith, w.deep, pushed_long _ _ _ popped);
        now = r.0;
        later = r.1;
        stands = r.2;
        known = r.3;
        waits = r.4;
        is = w.is ∙ ap (λ x. text ++ (x ++ w.later)) (no_text w.level vars top w.now none w.stands) ∙ ap (λ x. text ++ x) r.5;
      }

  -- the top alone is another
  build_on : (new : List ℕ) (next : Rest) (now : List ℕ) → AreKnown done (pieces_of next) → Stands w.level vars next now → text ++ w.now ≡ new ++ now → IsBuilding depth vars done new stack next t
  build_on new next now known stands same = record {
    level = w.level;
    deep = w.deep;
    now = now;
    later = w.later;
    stands = stands;
    known = known;
    waits = w.waits;
    is = w.is ∙ sym (append_assoc text w.now w.later) ∙ ap (λ x. x ++ w.later) same ∙ append_assoc new now w.later;
  }

  pub build_plain : {new : List ℕ} {b : ℕ} (behind : Bor (List ℕ)) (keep : Bool) → pieces_of top ≡ Plain b ∷ pieces_from keep 0 behind.now → new ≡ text ++ b ∷ [] →
      IsBuilding depth vars done new stack (record top { text = behind; kept = keep }) t
  build_plain {new} {b} behind keep e pushed =
      let r = stands_plain w.level vars top behind keep b w.now e w.stands in
      build_on new _ r.0 (subst (AreKnown done) e w.known).1 r.2 (ap (λ x. text ++ x) r.1 ∙ sym (append_assoc text (b ∷ []) r.0) ∙ ap (λ x. x ++ r.0) (sym pushed))

  -- at a variable
  module _ (behind : Bor (List ℕ)) (keep : Bool) {name : List ℕ} {k : VariableSummary} (right : IsRight depth vars done name k) (e : pieces_of top ≡ Use name ∷ pieces_from keep 0 behind.now) where
    pub split : Splits w.level vars top behind keep name k w.now (top.count / k.texts.count)
    split = stands_use w.level vars top behind keep name k w.now depth done right e w.stands

    abbrev pub next : Rest
    next = record { text = behind; kept = keep; number = top.number % (top.count / k.texts.count); count = top.count / k.texts.count }

    -- it is defined
    pub build_defined : (fault : PolicyKind) → ((d : ℕ) → outcome (suc d) vars name ≡ Stops fault) → ⊥
    build_defined fault stops = let d = goes_deeper w.level vars name split.most split.ts split.texts in cc (sym split.texts ∙ ap (λ l. outcome l vars name) d.1 ∙ stops d.0)

    pub build_opens : (values : List (List ℕ)) → is_reserved name ≡ false → values_of vars name ≡ Some values → Opens w.level vars values split.ts (top.number / (top.count / k.texts.count))
    build_opens values plain defined =
        let d = goes_deeper w.level vars name split.most split.ts split.texts in
        let own = of_counted (in_turn (outcome d.0 vars) values) split.most split.ts (sym (variable_is d.0 vars name values plain defined) ∙ ap (λ l. outcome l vars name) (sym d.1) ∙ split.texts) in
        record { below = d.0; is = d.1; has = record { most = own.0; texts = own.1; few = omega (arith, split.few, own.2); short = omega (arith, split.few, own.2); within = split.within } }

    pub build_blank : IsTrue k.texts.blank → IsBuilding depth vars done text stack next t
    build_blank blank = build_on text next split.later (subst (AreKnown done) e w.known).1 split.stands (ap (λ x. text ++ x) (split.is ∙ ap (λ x. x ++ split.later) (split.blank blank)))

    -- into the value that its text is of
    module _ {values : List (List ℕ)} (o : Opens w.level vars values split.ts (top.number / (top.count / k.texts.count))) {new_stack : List Rest} (value : Rest) (pushed : new_stack ≡ stack ++ next ∷ []) where
      pub build_into : AreKnown done (pieces_of value) → Stands o.below vars value (get_or split.ts (top.number / (top.count / k.texts.count)) []) → IsBuilding depth vars done text new_stack value t
      build_into known stands = record {
        level = o.below;
        deep = omega (arith, w.deep, o.is, pushed_long _ _ _ pushed);
        now = get_or split.ts (top.number / (top.count / k.texts.count)) [];
        later = split.later ++ w.later;
        stands = stands;
        known = known;
        waits = subst (λ st. Waits done o.below vars st (split.later ++ w.later)) (sym (pushed_up _ _ _ pushed)) (
          split.later,
          w.later,
          subst (λ l. Stands l vars next split.later) o.is split.stands,
          (subst (AreKnown done) e w.known).1,
          subst (λ l. Waits done l vars (reverse stack) w.later) o.is w.waits,
          refl,
        );
        is = w.is ∙ ap (λ x. text ++ (x ++ w.later)) split.is ∙ ap (λ x. text ++ x) (append_assoc _ split.later w.later);
      }

      pub steps_into : values_of vars name ≡ Some values → value.kept ≡ false → Contains values value.text.now → steps_left (depth - length new_stack) vars new_stack value < steps_left (depth - length stack) vars stack top
      steps_into defined fresh among = grind (arith, pushed_up, pushed_long, steps_among (steps_of_variable o.below vars) values value.text.now among.0 among.1 among.2)

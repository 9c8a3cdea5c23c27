-- Going on beside profiles that weren't read, and where there are none.
use Rattle.std.proofs.Common.{◌≡◌, ◌⊎◌, ℕ, List, [], ◌∷◌, Bool, true, false, cond, Option, Some, None, All, Contains}
use Rattle.std.proofs.Common.{refl, sym, ap, ◌∙◌, subst, ⊎_elim, inl, inr}
use Rattle.std.proofs.Math.Path.{fun_ext}
use Rattle.std.specs.Prelude.{◌||◌}
use Rattle.std.specs.Borrow.{Bor}
use Rattle.std.specs.List.{list_any}
use Rattle.std.specs.List.{slice_get}
use Rattle.std.specs.Option.{option_map_or}
use Rattle.aa_model.specs.declared.policy.Policy.{Policy}
use Rattle.aa_model.specs.declared.label.Label.{Label}
use Rattle.aa_model.specs.declared.request.Request.{Request}
use Rattle.aa_representatives.specs.Askable.{IsAskable}
use Rattle.aa_skipping.specs.declared.unread.Unread.{Unread}
use Rattle.aa_reachability.specs.declared.trail.Arrival.{Arrival}
use Rattle.aa_reachability.specs.declared.reached.Untold.{Untold}
use Rattle.aa_reachability.specs.declared.beside.Course.{Course}
use Rattle.aa_reachability.specs.Order.{IsNoLater}
use Rattle.aa_reachability.specs.Moves.{label_in, label_going, is_left_out, IsLeftOutAs, LeadAllBy}
use Rattle.aa_reachability.specs.Reach.{IsOpen, PassBy, AreTold, IsShortest, AreArrivals, AreNear, led_by, way_at}
use Rattle.aa_reachability.specs.Beside.{one_doubts, is_doubted, is_sure, label_decided, AreOpenings, LeadAllOn, IsSure, IsShortestBeside, AreArrivalsBeside, AreNearBeside}
use Rattle.aa_reachability.specs.Course.{unreads_of, label_on, IsSureOn, IsDecidedOn, IsTakenOn, HasOpenings}

-- a test of profiles that are pointed to
pub any_pointed : (p : Unread → Bool) (us : List (Bor Unread)) → list_any (λ (u : Bor Unread). p u.now) us ≡ list_any p (unreads_of us)
any_pointed p [] = refl
any_pointed p (u ∷ us) = ap (λ b. p u.now || b) (any_pointed p us)

either_stays : (b : Bool) (l m : Label) → m ≡ l → cond b l m ≡ l
either_stays true l m e = refl
either_stays false l m e = e

-- a request that is left out leads nowhere
pub stays_out : (c : Course) (l : Label) (r : Request) → is_left_out c.only_clean r ≡ true → label_on c l r ≡ l
unfolding label_on
stays_out c l r e = ap (λ b. cond b l (label_decided c.going.as_enforced c.going.policies.now (unreads_of c.unreads.now) l r)) e

-- nor does one that is doubted
pub stays_on : (c : Course) (l : Label) (r : Request) → is_doubted c.going.policies.now (unreads_of c.unreads.now) l r ≡ true → label_on c l r ≡ l
unfolding label_on
stays_on c l r e =
    either_stays (is_left_out c.only_clean r) l (label_decided c.going.as_enforced c.going.policies.now (unreads_of c.unreads.now) l r)
    (ap (λ b. cond b l (label_going c.going.as_enforced c.going.policies.now l r)) e)

-- another leads where it leads
pub decided_same : (c : Course) (l : Label) (r : Request) → is_left_out c.only_clean r ≡ false → IsDecidedOn c l r → label_on c l r ≡ label_in c.going l r
unfolding label_on label_in
decided_same c l r counts e =
    ap (λ b. cond b l (label_decided c.going.as_enforced c.going.policies.now (unreads_of c.unreads.now) l r)) counts
    ∙ ap (λ b. cond b l (label_going c.going.as_enforced c.going.policies.now l r)) e

either_out : (b : Bool) → (b ≡ true) ⊎ (b ≡ false)
either_out true = inl refl
either_out false = inr refl

-- at a label where none is doubted
pub lead_on : (c : Course) (l : Label) (rs : List Request) → ((r : Request) → IsDecidedOn c l r) → LeadAllBy c.only_clean c.going l rs
    → LeadAllOn (label_on c) l rs
lead_on c l rs sure lead = record {
  each = lead.each;
  all = λ r asked.
      ⊎_elim
      (λ (out : is_left_out c.only_clean r ≡ true). inl (stays_out c l r out))
      (λ (counts : is_left_out c.only_clean r ≡ false).
      ⊎_elim
      (λ (stays : label_in c.going l r ≡ l). inl (decided_same c l r counts (sure r) ∙ stays))
      (λ (found : (q : Request) × Contains rs q × (label_in c.going l r ≡ label_in c.going l q) × IsNoLater q r × IsLeftOutAs c.only_clean q r).
      inr (
        found.0,
        found.1,
        decided_same c l r counts (sure r) ∙ found.2 ∙ sym (decided_same c l found.0 (found.4 counts) (sure found.0)),
        found.3,
      ))
      (lead.all r asked))
      (either_out (is_left_out c.only_clean r));
}

-- a request that leads to another label is neither doubted nor left out
pub holds_on : (c : Course) (l : Label) (r : Request) → (label_on c l r ≡ l → ⊥) → IsTakenOn c l r
holds_on c l r moves = (
  ⊎_elim
      (λ (doubted : is_doubted c.going.policies.now (unreads_of c.unreads.now) l r ≡ true). absurd (moves (stays_on c l r doubted)))
      (λ (decided : is_doubted c.going.policies.now (unreads_of c.unreads.now) l r ≡ false). decided)
      (either_out (is_doubted c.going.policies.now (unreads_of c.unreads.now) l r)),
  ⊎_elim
      (λ (out : is_left_out c.only_clean r ≡ true). absurd (moves (stays_out c l r out)))
      (λ (counts : is_left_out c.only_clean r ≡ false). counts)
      (either_out (is_left_out c.only_clean r)),
)

no_doubt : (o : Option Policy) (l : Label) (r : Request) → option_map_or (one_doubts [] l r) o false ≡ false
no_doubt None l r = refl
no_doubt (Some policy) l r = refl

-- where all profiles were read no request is doubted
none_doubted : (ps : List Policy) (l : Label) (r : Request) → is_doubted ps [] l r ≡ false
unfolding is_doubted
none_doubted ps l r = no_doubt (slice_get ps 0) l r

pub whole_openings : (ps : List Policy) (unreads : List Unread) (openings : List Bool) → unreads ≡ [] → AreOpenings ps unreads openings
whole_openings ps unreads openings none l sure r = ap (λ us. is_doubted ps us l r) none ∙ none_doubted ps l r

-- the course where all were read and all paths count
module _ (c : Course) (none : unreads_of c.unreads.now ≡ []) (all : c.only_clean ≡ false) where
  abbrev go : Label → Request → Label
  go = label_going c.going.as_enforced c.going.policies.now

  decided : (l : Label) (r : Request) → label_on c l r ≡ go l r
  unfolding label_on
  decided l r =
      ap (λ b. cond (is_left_out b r) l (label_decided c.going.as_enforced c.going.policies.now (unreads_of c.unreads.now) l r)) all
      ∙ ap (λ b. cond b l (label_going c.going.as_enforced c.going.policies.now l r))
      (ap (λ us. is_doubted c.going.policies.now us l r) none ∙ none_doubted c.going.policies.now l r)

  course_is : label_on c ≡ go
  course_is = fun_ext (λ (l : Label). fun_ext (λ (r : Request). decided l r))

  sure : (l : Label) → IsSureOn c l
  sure l = subst (λ (us : List Unread). is_sure us c.openings.now l ≡ true) (sym none) refl

  pass_sure : (untold : List Untold) (l : Label) (rs : List Request) → PassBy go (IsOpen untold) l rs → PassBy go (IsSure untold (IsSureOn c)) l rs
  pass_sure untold l [] pass = tt
  pass_sure untold l (r ∷ rs) pass = ((pass.0, sure l), pass_sure untold (go l r) rs pass.1)

  told_sure : (untold : List Untold) (from : Label) (rs : List Request) → AreTold go (IsOpen untold) from rs
      → AreTold go (IsSure untold (IsSureOn c)) from rs
  told_sure untold from rs told = record { asked = told.asked; pass = pass_sure untold from rs told.pass }

  plain_arrivals : (untold : List Untold) (from : Label) (arrivals : List Arrival)
      → AreArrivalsBeside go (IsOpen untold) (IsSure untold (IsSureOn c)) (IsTakenOn c) from arrivals → AreArrivals go (IsOpen untold) from arrivals
  plain_arrivals untold from arrivals are = record {
    ways = are.ways;
    are = are.are;
    each = λ i a e.
        let it = are.each i a e in
        record {
          told = it.told;
          leads = it.leads;
          long = it.long;
          shortest = λ rs told is. it.shortest rs (told_sure untold from rs told) is;
        };
    all = λ rs told. are.all rs (told_sure untold from rs told);
    once = are.once;
    rising = are.rising;
  }

  -- so the arrivals are those of all requests
  pub whole_arrivals : (untold : List Untold) (from : Label) (arrivals : List Arrival)
      → AreArrivalsBeside (label_on c) (IsOpen untold) (IsSure untold (IsSureOn c)) (IsTakenOn c) from arrivals
      → AreArrivals go (IsOpen untold) from arrivals
  whole_arrivals untold from arrivals are =
      plain_arrivals untold from arrivals
      (subst (λ (step : Label → Request → Label). AreArrivalsBeside step (IsOpen untold) (IsSure untold (IsSureOn c)) (IsTakenOn c) from arrivals) course_is are)

  pub whole_near : (from : Label) (arrivals : List Arrival) → AreNearBeside (label_on c) (IsSureOn c) (IsTakenOn c) from arrivals → AreNear go from arrivals
  whole_near from arrivals near =
      let it : AreNearBeside go (IsSureOn c) (IsTakenOn c) from arrivals =
      subst (λ (step : Label → Request → Label). AreNearBeside step (IsSureOn c) (IsTakenOn c) from arrivals) course_is near in
      record { ways = it.ways; are = it.are; each = it.each; all = it.all (sure from); shortest = it.shortest (sure from); once = it.once }

-- The worlds of an engine, in a list: an event with a tag happens at the world of that number, and at no other.
use Rattle.std.specs.Prelude.{◌≡◌, ◌≢◌, ℕ, ◌==◌, cond, List, [], ◌∷◌, length, Some, option_map, slice_get, slice_set}
use Rattle.std.specs.Option.{option_map_or}
use Rattle.aa_lane.specs.WorldState.{WorldState, IsLawful, after, answer_to, after_all, answers_to}
use Rattle.aa_lane.specs.declared.event.Event.{Event}
use Rattle.aa_lane.specs.declared.event.Reply.{Reply}

-- of events with tags, or of their replies, those with this tag, in their order
abbrev pub of_tag : {X : Type 0} → ℕ → List (ℕ × X) → List X
of_tag i [] = []
of_tag i (t ∷ ts) = cond (t.0 == i) (t.1 ∷ of_tag i ts) (of_tag i ts)

module _ {W E : Type 0} (step : W → E → W) where
  -- the worlds after an event with a tag: that of the tag has moved; where there is none, nothing happens
  abbrev pub changed : List W → ℕ × E → List W
  changed ws t = option_map_or (λ (w : W). slice_set ws t.0 (step w t.1)) (slice_get ws t.0) ws

  -- what events with tags make of the worlds
  abbrev pub all_changed : List W → List (ℕ × E) → List W
  all_changed ws [] = ws
  all_changed ws (t ∷ ts) = all_changed (changed ws t) ts

module _ {W E R : Type 0} (step : W → E → W) (says : W → E → R) where
  -- the replies, each with its tag; none to an event that has no world
  abbrev pub all_said : List W → List (ℕ × E) → List (ℕ × R)
  all_said ws [] = []
  all_said ws (t ∷ ts) = option_map_or (λ (w : W). (t.0, says w t.1) ∷ all_said (changed step ws t) ts) (slice_get ws t.0) (all_said (changed step ws t) ts)

module _ {M S Q A : Type 0} (next : M → S → Q → S) (reply : M → S → Q → A) where
  -- the worlds of all lanes
  abbrev pub Worlds : Type 0
  Worlds = List (WorldState M S Q A)

  -- the worlds after events with tags
  abbrev pub worlds_after : Worlds → List (ℕ × Event M S Q A) → Worlds
  worlds_after = all_changed (after next reply)

  -- the replies to events with tags
  abbrev pub worlds_say : Worlds → List (ℕ × Event M S Q A) → List (ℕ × Reply M S Q A)
  worlds_say = all_said (after next reply) (answer_to next reply)

  -- the worlds of an engine don't touch one another
  pub record WorldsApart : Type 0 where
    -- an event changes the world of its tag as the event of that world does, and no other
    pub own : (ws : Worlds) (i : ℕ) (e : Event M S Q A) → slice_get (worlds_after ws ((i, e) ∷ [])) i ≡ option_map (λ w. after next reply w e) (slice_get ws i)
    pub others : (ws : Worlds) (i j : ℕ) (e : Event M S Q A) → j ≢ i → slice_get (worlds_after ws ((i, e) ∷ [])) j ≡ slice_get ws j
    pub as_many : (ws : Worlds) (ts : List (ℕ × Event M S Q A)) → length (worlds_after ws ts) ≡ length ws
    -- so each world is what its own events, in their order, make of it, and says what it says to them
    pub each : (ws : Worlds) (ts : List (ℕ × Event M S Q A)) (i : ℕ) → slice_get (worlds_after ws ts) i ≡ option_map (λ w. after_all next reply w (of_tag i ts)) (slice_get ws i)
    pub says : (ws : Worlds) (ts : List (ℕ × Event M S Q A)) (i : ℕ) (w : WorldState M S Q A) → slice_get ws i ≡ Some w → of_tag i (worlds_say ws ts) ≡ answers_to next reply w (of_tag i ts)
    -- and all stay lawful
    pub lawful : (ws : Worlds) (ts : List (ℕ × Event M S Q A)) → ((i : ℕ) (w : WorldState M S Q A) → slice_get ws i ≡ Some w → IsLawful next reply w)
        → (i : ℕ) (w : WorldState M S Q A) → slice_get (worlds_after ws ts) i ≡ Some w → IsLawful next reply w

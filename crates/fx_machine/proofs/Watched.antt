-- A watcher that saw some events, and then others, has seen both: `seen_both`. One that stops a program stops it in the state after
-- the event that it saw last: `stopped_one`.
-- It serves the loop of `run`, and two programs that run one after the other.
use Rattle.std.proofs.Common.{◌≡◌, Bool, true, false, List, [], ◌∷◌, ◌++◌, refl, subst, sym, inl, inr}
use Rattle.fx_machine.specs.declared.state.State.{State}
use Rattle.fx_machine.specs.Events.{Event, Watches, StopsIn, state_at}

-- once it has seen what is left, it has seen all
pub record HasSeen {W : Type 0} (Sees : W → Event → W → Type 0) (was now : W) (all left : List Event) : Type 0 where
  pub then : (end : W) → Watches Sees now left end → Watches Sees was all end

module _ {W : Type 0} {Sees : W → Event → W → Type 0} where
  -- the first event was seen
  pub seen_first : {was now : W} {x : Event} {left : List Event} (all : List Event) → all ≡ x ∷ left → Sees was x now
      → HasSeen Sees was now all left
  seen_first {was} {now} {x} {left} all e s =
      record { then = λ end w. let P : List Event → Type 0 = λ l. Watches Sees was l end in subst P (sym e) (now, s, w) }

  -- one more
  pub seen_one : {was now next : W} {all left more : List Event} {x : Event} → HasSeen Sees was now all left → left ≡ x ∷ more
      → Sees now x next → HasSeen Sees was next all more
  seen_one {now = now} {next = next} {left = left} h e s = record {
    then = λ end w. h.then end (let P : List Event → Type 0 = λ l. Watches Sees now l end in subst P (sym e) (next, s, w));
  }

  -- none is left
  pub seen_all : {was now : W} {all left : List Event} → HasSeen Sees was now all left → left ≡ [] → Watches Sees was all now
  seen_all {now = now} h e = h.then now (let P : List Event → Type 0 = λ l. Watches Sees now l now in subst P (sym e) refl)

-- one that stays as it is has seen whatever is left
pub stays_seeing : {W : Type 0} (Sees : W → Event → W → Type 0) (now : W) (left : List Event) → ((x : Event) → Sees now x now)
    → Watches Sees now left now
stays_seeing Sees now [] stays = refl
stays_seeing Sees now (x ∷ left) stays = (now, stays x, stays_seeing Sees now left stays)

pub seen_stopped : {W : Type 0} (Sees : W → Event → W → Type 0) {was now : W} {all left : List Event}
    → HasSeen Sees was now all left → ((x : Event) → Sees now x now) → Watches Sees was all now
seen_stopped Sees {now = now} {left = left} h stays = h.then now (stays_seeing Sees now left stays)

-- some events, and then others
pub seen_both : {W : Type 0} (Sees : W → Event → W → Type 0) (was mid now : W) (xs ys : List Event) → Watches Sees was xs mid
    → Watches Sees mid ys now → Watches Sees was (xs ++ ys) now
seen_both {W} Sees was mid now [] ys h k = let P : W → Type 0 = λ w. Watches Sees w ys now in subst P h k
seen_both Sees was mid now (x ∷ xs) ys h k = (h.0, h.1, seen_both Sees h.0 mid now xs ys h.2 k)

-- it has stopped the program in this state; or it goes on, and whatever stops it in what is left stops it in all
pub record HasStopped {W : Type 0} (Sees : W → Event → W → Type 0) (stops : W → Bool) (was now : W) (s : State)
    (all left : List Event) : Type 0 where
  pub here : stops now ≡ true → StopsIn Sees stops was all s now
  pub then : stops now ≡ false → (t : State) (end : W) → StopsIn Sees stops now left t end → StopsIn Sees stops was all t end

module _ {W : Type 0} {Sees : W → Event → W → Type 0} {stops : W → Bool} where
  -- the first event was seen
  pub stopped_first : {was now : W} {x : Event} {left : List Event} (all : List Event) → all ≡ x ∷ left → Sees was x now
      → HasStopped Sees stops was now (state_at x) all left
  stopped_first {was} {now} {x} {left} all e s = record {
    here = λ h.
        let P : List Event → Type 0 = λ l. StopsIn Sees stops was l (state_at x) now in
        subst P (sym e) (now, s, inl (h, refl, refl));
    then = λ h t end k.
        let P : List Event → Type 0 = λ l. StopsIn Sees stops was l t end in subst P (sym e) (now, s, inr (h, k));
  }

  -- one more, by a watcher that had not stopped the program
  pub stopped_one : {was now next : W} {s : State} {all left more : List Event} {x : Event}
      → HasStopped Sees stops was now s all left → stops now ≡ false → left ≡ x ∷ more → Sees now x next
      → HasStopped Sees stops was next (state_at x) all more
  stopped_one {was} {now} {next} {s} {all} {left} {more} {x} h goes e sees = record {
    here = λ k. h.then goes (state_at x) next
        (let P : List Event → Type 0 = λ l. StopsIn Sees stops now l (state_at x) next in
        subst P (sym e) (next, sees, inl (k, refl, refl)));
    then = λ k t end w. h.then goes t end
        (let P : List Event → Type 0 = λ l. StopsIn Sees stops now l t end in subst P (sym e) (next, sees, inr (k, w)));
  }

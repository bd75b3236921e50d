-- A new file: with which access it is made, and what becomes of it and of the file that has its name.
use Rattle.std.specs.Prelude.{◌≡◌, ◌⊎◌, ℕ, Bool, true, false, Option, Some, None}
use Rattle.fx_words.specs.Parts.{Text}
use Rattle.fx_front.specs.Places.{kept_mode, new_mode}
use Rattle.fx_front.specs.declared.disk.Access.{Access}

-- what the system did with an open file: it was given an owner and a group, or not; a mode, or not
module _ {F : Type 0} (Gives : F → Option ℕ → ℕ → Bool → F → Type 0) (Sets : F → ℕ → Bool → F → Type 0)
  where
    -- a file was given the owner and the group of an older one; if the system refuses that, as it does to a user who is not the
    -- owner, the group alone, as far as it lets
    abbrev pub IsGiven : Access → F → F → Type 0
    IsGiven older was now = Gives was (Some older.owner) older.group true now
        ⊎ ((kept : F) × (let_so : Bool) × Gives was (Some older.owner) older.group false kept
        × Gives kept None older.group let_so now)

    -- and then its mode, as far as the system lets: so nobody else can read it before it has its owner
    abbrev pub TakesOver : Access → F → F → Type 0
    TakesOver older was now =
        (given : F) × (let_so : Bool) × IsGiven older was given × Sets given (kept_mode older.mode) let_so now

    -- what a file has that replaces an older one, or none
    abbrev pub HasAccess : Option Access → F → F → Type 0
    HasAccess None was now = now ≡ was
    HasAccess (Some older) was now = TakesOver older was now

    -- a file was made of a name, and took over an access; or none was made
    abbrev pub IsMade : {N : Type 0} → (N → Text → ℕ → Option F → N → Type 0) → Text → Option Access → N → Option F → N → Type 0
    IsMade Makes made older was (Some file) now =
        (new : F) × Makes was made (new_mode older) (Some new) now × HasAccess older new file
    IsMade Makes made older was None now = Makes was made (new_mode older) None now

-- what the system did with names: the file of one got another, or not; that of one was removed. And whether it stored a file
module _ {F N : Type 0} (Stores : F → Bool → Type 0) (Renames : N → Text → Text → Bool → N → Type 0)
    (Removes : N → Text → N → Type 0)
  where
    -- a file got its name in one step, once all of it was stored; or it was removed, and no other name was touched
    abbrev pub IsNamed : F → Text → Text → N → Bool → N → Type 0
    IsNamed file made name was true now = Stores file true × Renames was made name true now
    IsNamed file made name was false now = (Stores file false × Removes was made now)
        ⊎ ((refused : N) × Stores file true × Renames was made name false refused × Removes refused made now)

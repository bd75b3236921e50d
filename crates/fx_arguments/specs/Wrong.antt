-- What is wrong with the values of a command's options.
use Rattle.std.specs.Prelude.{◌≡◌, ◌⊎◌, List, [], ◌∷◌, ◌++◌, codes, Result, Ok, Err}
use Rattle.std.specs.List.{flat_map}
use Rattle.clap.specs.Walk.{Text}
use Rattle.fx_request.specs.declared.refusal.Refusal.TheVariants.{BadChars, OutOfMemory}
use Rattle.fx_arguments.specs.declared.wrong.Wrong.{Wrong}
use Rattle.fx_arguments.specs.declared.wrong.Wrong.TheVariants.{Says, NotTaken, Refused}

-- a line of these pieces
abbrev pub said : List Text → Text
said pieces = flat_map (λ piece. piece) pieces ++ 10 ∷ []

-- a line says what is wrong, or characters are malformed
pub data WrongView : Type 0 where
  wrong : Text → WrongView
  malformed : WrongView

abbrev pub says : Text → WrongView
says what = wrong (said (what ∷ []))

-- an option takes something, and not this value
abbrev pub not_taken : Text → Text → WrongView
not_taken takes value = wrong (said (takes ∷ codes ", not '" ∷ value ∷ codes "'" ∷ []))

-- what the program reads of them: the value that is due, as it is seen; what is wrong; or out of memory
abbrev pub Reads : {A B : Type 0} → (A → B) → Result A Wrong → Result B WrongView → Type 0
Reads view (Ok x) due = due ≡ Ok (view x)
Reads view (Err (Says what)) due = due ≡ Err (says what.now)
Reads view (Err (NotTaken takes value)) due = due ≡ Err (not_taken takes.now value.now)
Reads view (Err (Refused refusal)) due = (refusal ≡ OutOfMemory) ⊎ ((refusal ≡ BadChars) × (due ≡ Err malformed))

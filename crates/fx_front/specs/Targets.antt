-- Where the output of a name goes, by what the system says of names.
use Rattle.std.specs.Prelude.{◌≡◌, ◌⊎◌, ◌==◌, ◌&&◌, Bool, true, false, [], ◌∷◌, codes, Option, Some, None, Result, Ok, Err, string_bytes}
use Rattle.std.specs.Prelude.{if◌then◌else◌}
use Rattle.std.specs.Borrow.{Bor}
use Rattle.std.specs.List.{list_any}
use Rattle.fx_words.specs.Parts.{Text, has}
use Rattle.fx_front.specs.Links.{Follows, most_links}
use Rattle.fx_front.specs.Places.{standard}
use Rattle.fx_front.specs.declared.disk.Access.{Access}
use Rattle.fx_front.specs.declared.disk.FileId.{FileId}
use Rattle.fx_front.specs.declared.disk.Found.{Found}
use Rattle.fx_front.specs.declared.disk.Found.TheVariants as found
use Rattle.fx_front.specs.declared.disk.Link.{Link}
use Rattle.fx_front.specs.declared.target.Target.{Target}
use Rattle.fx_front.specs.declared.target.Target.TheVariants as goes

-- an output goes to standard output; to the device, the pipe or the like of its name; to a new file of a name, which takes over the
-- access of the file that it replaces, if there is one; or nowhere, and why
pub data TargetView : Type 0 where
  standard_output : TargetView
  device : TargetView
  new_file : Text → Option Access → TargetView
  unwritten : Text → TargetView

abbrev pub seen_target : Result Target (Bor Text) → TargetView
seen_target (Ok goes.Standard) = standard_output
seen_target (Ok goes.Device) = device
seen_target (Ok (goes.New name older)) = new_file (string_bytes name) older
seen_target (Err why) = unwritten why.now

-- the folder of a name: its bytes up to the last slash (47); empty for the current folder
abbrev pub folder_of : Text → Text
folder_of [] = []
folder_of (b ∷ name) = if list_any (λ byte. byte == 47) (b ∷ name) then b ∷ folder_of name else []

-- two files are one
abbrev pub is_same : FileId → FileId → Bool
is_same one other = one.device == other.device && one.number == other.number

-- something was found
abbrev pub exists : Found → Bool
exists found.Folder = true
exists (found.Plain access) = true
exists found.Other = true
exists _ = false

-- what was found is this file
abbrev pub is_file : Found → FileId → Bool
is_file (found.Plain other) file = is_same other.id file
is_file _ file = false

-- the name of a file still has it: which file the name has now, if the system says it
abbrev pub is_now : Option FileId → FileId → Bool
is_now None file = false
is_now (Some other) file = is_same other file

-- whether a file is the font, by what has a name
abbrev pub IsFont : (Text → Found → Type 0) → Text → FileId → Bool → Type 0
IsFont Has font file answer = (other : Found) × Has font other × (answer ≡ is_file other file)

-- why a plain file is not replaced, if it is not, by what has a name and by why the file of a name can't be written
abbrev pub UnreplacedBy : (Text → Option Text → Type 0) → Bool → Bool → Text → Option Text → Type 0
UnreplacedBy Guards true is_read_only name why = why ≡ Some (codes "it is the font")
UnreplacedBy Guards false true name why = why ≡ Some (codes "it is read-only")
UnreplacedBy Guards false false name why = Guards name why

abbrev pub Unreplaced : (Text → Found → Type 0) → (Text → Option Text → Type 0) → Text → Text → Access → Option Text → Type 0
Unreplaced Has Guards name font older why =
    (is_font : Bool) × IsFont Has font older.id is_font × UnreplacedBy Guards is_font older.is_read_only name why

-- whether a folder exists; the current one does
abbrev pub HasFolder : (Text → Found → Type 0) → Text → Bool → Type 0
HasFolder Has [] answer = answer ≡ true
HasFolder Has (b ∷ folder) answer = (found : Found) × Has (b ∷ folder) found × (answer ≡ exists found)

-- whether a name is still that of the file that was looked at, if there was one, by which file has a name itself
abbrev pub IsStill : (Text → Option FileId → Type 0) → Text → Option Access → Bool → Type 0
IsStill Is name None answer = answer ≡ true
IsStill Is name (Some older) answer = (now : Option FileId) × Is name now × (answer ≡ is_now now older.id)

-- what the system says: where a name leads; what has it; which file has it itself; why the plain file of it can't be written
module _ (Leads : Text → Link → Type 0) (Has : Text → Found → Type 0) (Is : Text → Option FileId → Type 0)
    (Guards : Text → Option Text → Type 0)
  where
    -- a new file of the name that the links lead to, if its folder exists and the name is still that of the older file
    abbrev pub NewBy : Bool → Text → Option Access → TargetView → Type 0
    NewBy false name older target = target ≡ unwritten (codes "no file can be made in its folder")
    NewBy true name older target =
        (IsStill Is name older false × (target ≡ unwritten (codes "another file got its name meanwhile")))
        ⊎ (IsStill Is name older true × (target ≡ new_file name older))

    abbrev pub FinalBy : Option Text → Option Access → TargetView → Type 0
    FinalBy None older target = target ≡ unwritten (codes "it is a link that can't be followed")
    FinalBy (Some name) older target = (has_folder : Bool) × HasFolder Has (folder_of name) has_folder
        × NewBy has_folder name older target

    abbrev pub FinalName : Text → Option Access → TargetView → Type 0
    FinalName name older target = (final : Option Text) × Follows Leads most_links name final × FinalBy final older target

    -- the same of a plain file, unless it is not replaced
    abbrev pub GoesUnless : Option Text → Text → Access → TargetView → Type 0
    GoesUnless (Some why) name older target = target ≡ unwritten why
    GoesUnless None name older target = FinalName name (Some older) target

    -- by what has the name
    abbrev pub GoesBy : Found → Text → Text → TargetView → Type 0
    GoesBy found.Folder name font target = target ≡ unwritten (codes "it is a folder")
    GoesBy (found.Plain older) name font target = (why : Option Text) × Unreplaced Has Guards name font older why
        × GoesUnless why name older target
    GoesBy found.Other name font target = target ≡ device
    GoesBy found.Nothing name font target = FinalName name None target
    GoesBy found.Denied name font target = target ≡ unwritten (codes "permission denied")
    GoesBy found.Unknown name font target = target ≡ unwritten (codes "no file can be made in its folder")

    abbrev pub GoesToName : Text → Text → TargetView → Type 0
    GoesToName name font target = (found : Found) × Has name found × GoesBy found name font target

    -- a name, if one is given that is none of standard output
    abbrev pub GoesToBy : Bool → Text → Text → TargetView → Type 0
    GoesToBy true name font target = target ≡ standard_output
    GoesToBy false name font target = GoesToName name font target

    abbrev pub GoesTo : Option Text → Text → TargetView → Type 0
    GoesTo None font target = target ≡ standard_output
    GoesTo (Some name) font target = GoesToBy (has standard name) name font target

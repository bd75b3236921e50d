-- Where the links at the end of a name lead.
use Rattle.std.specs.Prelude.{◌≡◌, ℕ, zero, suc, Option, Some, None, string_bytes}
use Rattle.std.specs.Path.{path_with_file_name}
use Rattle.fx_words.specs.Parts.{Text}
use Rattle.fx_front.specs.declared.disk.Link.{Link}
use Rattle.fx_front.specs.declared.disk.Link.TheVariants.{To, Ends, Unread}

-- how many links are followed, as by Linux
abbrev pub most_links : ℕ
most_links = 40

-- what is found behind a name: by a link it goes on from the name's folder, and a name that is no link is found itself
abbrev pub FollowsBy : (Text → Option Text → Type 0) → Text → Link → Option Text → Type 0
FollowsBy GoesOn name (To target) found = GoesOn (path_with_file_name name (string_bytes target)) found
FollowsBy GoesOn name Ends found = found ≡ Some name
FollowsBy GoesOn name Unread found = found ≡ None

-- the same by at most n links; behind more nothing is found
unfoldable pub Follows : (Text → Link → Type 0) → ℕ → Text → Option Text → Type 0
Follows Leads zero name found = found ≡ None
Follows Leads (suc n) name found = (link : Link) × Leads name link × FollowsBy (Follows Leads n) name link found

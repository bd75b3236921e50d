-- What C hands over to a call that draws: a font at a size, in a mode.
use Rattle.fx_sfnt.specs.Collections.{FontFileView, face_in}
use Rattle.mkstrike_c.specs.declared.font_at.FontAt.{FontAt}

-- the face of its file
abbrev pub file_at : FontAt → FontFileView
file_at at = face_in at.font.now at.face

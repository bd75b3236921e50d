use Rattle.fx_symmetry.proofs.Meeting.{mirror_meets, mirror_meets_up, flip_meets, flip_meets_up}
use Rattle.fx_symmetry.proofs.laws.meeting.Goals as goal

pub returns : goal.returns
returns c = record { mirror = mirror_meets; mirror_up = mirror_meets_up; flip = flip_meets; flip_up = flip_meets_up }

use Rattle.fx_rows.proofs.Flats.{only_side}
use Rattle.fx_rows.proofs.rest.upright_rest.Goals as goal

pub edge_rest-requires-clause-only : goal.edge_rest-requires-clause-only
edge_rest-requires-clause-only c = only_side c.args.piece.now c.args.b c.args.strip c.edge_of.result.at c.edge_of.result.met
    c.requires.middle c.requires.flat c.requires.slanted c.edge_of.ensures.edge c.edge_of.ensures.met

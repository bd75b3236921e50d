use Rattle.std.proofs.Common.{◌∙◌, ap, refl, Err}
use Rattle.std.proofs.KnownBytes.{Keeps-refl}
use Rattle.fx_strike.proofs.Exits.{came}
use Rattle.fx_views.proofs.Outlining.{not_outlined}
use Rattle.fx_arguments.specs.Commands.{seen_characters, seen_make}
use Rattle.fx_cli.specs.Mapped.{chosen_of}
use Rattle.fx_cli.proofs.Made.{no_codes, strike_refused, untold}
use Rattle.fx_cli.proofs.Telling.{unlisted}
use Rattle.fx_cli.proofs.program.run_task.Goals as goal

pub returns-in_err-all-in-Strike : goal.returns-in_err-all-in-Strike
returns-in_err-all-in-Strike g c =
    rw (c.in-Strike.is, came c.from_residual.result c.from_residual.ensures.1)
    (untold (no_codes (seen_characters c.in-Strike.make.chars) (seen_make c.in-Strike.make) _ _
    c.in_err-all-in-Strike.ensures.refused (Keeps-refl _, refl)))

pub returns-in_err-report-in-Strike : goal.returns-in_err-report-in-Strike
returns-in_err-report-in-Strike g c =
    rw (
      c.in-Strike.is,
      came c.from_residual-in_err-report-in-Strike.result
          c.from_residual-in_err-report-in-Strike.ensures.1,
    )
    (strike_refused c.request-request.result (seen_make c.in-Strike.make) c.in_ok-all-in-Strike.all.items c.args.font.now _ _ _
    c.in_err-report-in-Strike.field-0.0 c.request-request.ensures.made
    (c.request-request.ensures.chars ∙ c.chosen_of.ensures
    ∙ ap (chosen_of (seen_characters c.in-Strike.make.chars)) c.deref.ensures.value)
    c.in_ok-all-in-Strike.ensures.codes c.in_err-report-in-Strike.ensures.made c.in_err-report-in-Strike.ensures.told)

pub returns-in_err-listing_of-in-Listing : goal.returns-in_err-listing_of-in-Listing
returns-in_err-listing_of-in-Listing g c =
    let e = c.in_err-listing_of-in-Listing.ensures in
    rw (
      c.in-Listing.is,
      came c.from_residual-in_err-listing_of-in-Listing.result
          c.from_residual-in_err-listing_of-in-Listing.ensures.1,
    )
    (untold (
      unlisted _ _ (Err c.in_err-listing_of-in-Listing.field-0.0) c.in_err-listing_of-in-Listing.field-0.0 refl e.cause e.writer,
      refl,
    ))

pub returns-in_err-write_outline-in-Outline : goal.returns-in_err-write_outline-in-Outline
returns-in_err-write_outline-in-Outline g c =
    let e = c.in_err-write_outline-in-Outline.ensures in
    rw (
      c.in-Outline.is,
      came c.from_residual-in_err-write_outline-in-Outline.result
          c.from_residual-in_err-write_outline-in-Outline.ensures.1,
    )
    (untold (
      not_outlined _ _ _ (Err c.in_err-write_outline-in-Outline.field-0.0) c.in_err-write_outline-in-Outline.field-0.0 refl
          e.cause e.late e.writer,
      refl,
    ))

pub returns-in_err-there-in-Trace : goal.returns-in_err-there-in-Trace
returns-in_err-there-in-Trace g c =
    let e = c.in_err-there-in-Trace.ensures in
    rw (
      c.in-Trace.is,
      came c.from_residual-in_err-there-in-Trace.result
          c.from_residual-in_err-there-in-Trace.ensures.1,
    )
    (untold (
      record { text = tt; cause = e.cause; memory = e.memory; writer = e.writer },
      refl,
    ))

pub returns-in_ok-there-in-Trace : goal.returns-in_ok-there-in-Trace
returns-in_ok-there-in-Trace g c =
    let e = c.in_ok-there-in-Trace.ensures in
    rw c.in-Trace.is
    (untold (
      record { text = e.text; cause = tt; memory = e.memory; writer = e.writer },
      refl,
    ))

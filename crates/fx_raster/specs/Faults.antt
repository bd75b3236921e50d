-- Why an outline has no shape.
pub use Rattle.fx_contour.specs.declared.fault.ContourFault.{ContourFault as RasterFault}
pub use Rattle.fx_contour.specs.declared.fault.ContourFault.TheVariants.{TooFar, TooLarge, OutOfMemory}

pub use Rattle.settling.specs.Refusing

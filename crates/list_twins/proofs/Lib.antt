-- Laws of the slots that rows tell from others and of their twins, and the exchange of two twins in a plan.
pub mod AlikeLaws
pub mod ExchangeLaws
pub mod NameLaws
pub mod TwinLaws
